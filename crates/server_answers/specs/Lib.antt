pub mod Rooms
pub mod Texts
pub mod internal
