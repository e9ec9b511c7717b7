pub mod Masks
pub mod Lines
pub mod Again
pub mod NoControl
