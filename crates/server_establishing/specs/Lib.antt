pub mod Ahead
pub mod Prepared
pub mod internal
