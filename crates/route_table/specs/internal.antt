-- Definitions that only private functions and invariants cite.
pub mod Sound
pub mod Walk
