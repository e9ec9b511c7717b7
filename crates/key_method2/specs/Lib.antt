pub mod Message
pub mod Spelling
pub mod Reading
pub mod Views
pub mod Judging
pub mod Messages
pub mod Info
pub mod internal
