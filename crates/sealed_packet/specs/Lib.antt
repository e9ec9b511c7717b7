pub mod SealedPacket
pub mod Opening
pub mod internal
