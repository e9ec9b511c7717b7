pub mod Options
pub mod Parts
pub mod Received
pub mod Collecting
pub mod internal
