pub mod Turns
pub mod Memory
pub mod Others
pub mod internal
