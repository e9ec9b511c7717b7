pub mod Client
pub mod internal
