pub mod Runs
pub mod Transcript
pub mod Replays
pub mod internal
