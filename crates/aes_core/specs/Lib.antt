pub mod Field
pub mod SBox
pub mod Cipher
pub mod KeyExpansion
pub mod CounterMode
pub mod internal
