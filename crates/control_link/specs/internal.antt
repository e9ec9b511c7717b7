-- What only private functions cite: no public contract reaches it.
pub mod Sound
pub mod Sending
pub mod Courses
