pub mod Standing
pub mod Rooms
pub mod Calls
pub mod internal
