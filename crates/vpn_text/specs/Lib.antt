pub mod Words
pub mod Quoted
pub mod Mask
pub mod ConfigLine
pub mod CipherWord
