pub mod Wrapped
pub mod Packets
pub mod Unwrapping
pub mod Lending
pub mod StaticKey
pub mod internal
