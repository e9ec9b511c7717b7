pub mod Owner
pub mod Learned
pub mod internal
