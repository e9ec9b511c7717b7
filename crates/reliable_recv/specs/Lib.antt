pub mod Receiving
pub mod Sides
pub mod Prefix
pub mod Runs
pub mod internal
