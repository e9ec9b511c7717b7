pub mod Appending
pub mod Counts
pub mod FileFronts
pub mod LongText
pub mod NextLine
pub mod Standing
pub mod WholeSchedules
