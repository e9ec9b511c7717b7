pub mod Accepted
pub mod HandedOn
pub mod Waiting
pub mod WellKept
pub mod Sealings
pub mod Wraps
pub mod LastTaken
