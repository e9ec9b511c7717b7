-- What only private functions cite.
pub mod Finished
pub mod OpenOnes
pub mod Rooms
