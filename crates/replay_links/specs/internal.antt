-- What only this crate's own functions cite.
pub mod Cuts
pub mod Stepping
pub mod Taking
