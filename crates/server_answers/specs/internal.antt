-- What only private functions cite.
pub mod Ahead
pub mod Following
pub mod Filing
pub mod Taking
