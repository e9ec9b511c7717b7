pub mod Lengths
pub mod RunLaws
