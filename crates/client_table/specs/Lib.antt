pub mod Finding
pub mod Entries
pub mod Changes
pub mod PeerIds
pub mod Sound
pub mod Pairs
pub mod Tables
