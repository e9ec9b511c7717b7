-- What only private functions cite.
pub mod Beginnings
pub mod Ticking
pub mod Unread
pub mod Unnamed
