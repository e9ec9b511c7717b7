pub mod Steps
pub mod Cuts
pub mod Readings
pub mod Lengths
