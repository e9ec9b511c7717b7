pub mod Directives
pub mod ClientFile
pub mod internal
