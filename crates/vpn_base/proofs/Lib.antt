pub mod Splitting
pub mod Digits
pub mod Decimals
pub mod FirstLine
pub mod AddressText
