-- What private functions and the invariant of a key alone cite.
pub mod Words
pub mod Schedule
pub mod Columns
pub mod SharedRounds
