pub mod Keys
pub mod Seals
pub mod Output
pub mod Progress
pub mod internal
