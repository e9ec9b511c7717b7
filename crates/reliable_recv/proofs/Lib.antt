pub mod Payloads
pub mod Standing
pub mod InOrder
pub mod Reading
pub mod Prefixes
pub mod Soundness
