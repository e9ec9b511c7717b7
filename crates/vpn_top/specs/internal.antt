-- What only private functions cite.
pub mod Requests
pub mod Going
pub mod Ends
pub mod Refused
pub mod Told
pub mod Replaying
