pub mod Forms
pub mod Keywords
pub mod BlockBytes
pub mod Steps
