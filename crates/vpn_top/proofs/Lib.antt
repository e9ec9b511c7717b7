pub mod Runs
pub mod Counting
pub mod Answers
mod Fronts
mod Checks
mod CheckEnds
mod Transcripts
mod Replays
mod ReplayEnds
