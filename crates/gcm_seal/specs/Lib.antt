pub mod AnyGcm
pub mod Gcm
pub mod Sealed
pub mod internal
