-- What only private functions cite.
pub mod Ciphers
pub mod Steps
