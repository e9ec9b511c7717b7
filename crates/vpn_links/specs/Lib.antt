pub mod Actions
pub mod LinkStore
pub mod Faults
pub mod Rounds
pub mod Starts
pub mod Steps
pub mod internal
