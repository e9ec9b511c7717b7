-- What only private functions cite.
pub mod Asking
pub mod Taking
