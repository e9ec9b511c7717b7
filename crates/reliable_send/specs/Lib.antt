pub mod Sending
pub mod Sides
pub mod Runs
pub mod internal
