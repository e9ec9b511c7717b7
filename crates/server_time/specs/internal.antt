-- What only private functions cite.
pub mod Pings
pub mod Walks
