pub mod Entries
pub mod Distinct
pub mod Ring
pub mod Standing
pub mod LongStanding
pub mod RunLaws
pub mod Once
