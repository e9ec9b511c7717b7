pub mod Standing
pub mod Core
pub mod Calls
pub mod Endings
pub mod Places
pub mod Verdicts
pub mod internal
