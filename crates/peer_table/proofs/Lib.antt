pub mod Order
pub mod Begun
pub mod Calls
pub mod Closing
pub mod Ticks
