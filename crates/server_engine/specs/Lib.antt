pub mod Calls
pub mod Files
pub mod Messages
pub mod Rests
pub mod internal
