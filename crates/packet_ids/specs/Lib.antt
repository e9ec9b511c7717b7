pub mod Freshness
pub mod Window
pub mod LongFreshness
pub mod LongWindows
pub mod Runs
pub mod internal
