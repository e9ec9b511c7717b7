-- What private functions are said with.
pub mod Beside
