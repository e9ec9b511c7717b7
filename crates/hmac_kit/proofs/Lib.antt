pub mod Xor
pub mod PHash
