pub mod Fronts
pub mod Replay
pub mod Schedule
pub mod internal
