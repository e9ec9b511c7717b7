mod Elements
pub mod Parts
pub mod Searching
