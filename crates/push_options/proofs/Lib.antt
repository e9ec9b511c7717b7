pub mod Added
pub mod Short
pub mod Taken
pub mod Collected
