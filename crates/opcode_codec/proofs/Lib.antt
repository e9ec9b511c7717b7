pub mod Readings
pub mod PacketLaws
pub mod ControlLaws
