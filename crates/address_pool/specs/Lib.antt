pub mod LeastFree
pub mod Counts
pub mod Holds
pub mod Arrivals
pub mod internal
