-- What only private functions cite.
pub mod Passing
pub mod Opening
