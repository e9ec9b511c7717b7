pub mod Field
pub mod Ghash
pub mod Hasher
pub mod internal
