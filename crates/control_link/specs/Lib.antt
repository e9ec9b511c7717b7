pub mod Envelope
pub mod Messages
pub mod Links
pub mod Calls
pub mod Reading
pub mod Texts
pub mod Runs
pub mod internal
