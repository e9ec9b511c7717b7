pub mod Shrinking
pub mod Cutting
pub mod Altered
pub mod Finding
pub mod Histories
pub mod Standing
pub mod Soundness
pub mod RunLaws
