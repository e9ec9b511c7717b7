-- What only private functions cite.
pub mod Masked
pub mod Writing
