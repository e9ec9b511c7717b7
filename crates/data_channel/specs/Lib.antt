pub mod Channels
pub mod Heads
pub mod Runs
pub mod Standing
