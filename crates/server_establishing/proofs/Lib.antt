pub mod Placed
pub mod Established
pub mod GivenUp
pub mod Held
pub mod Again
pub mod Replaced
pub mod Kept
pub mod Asked
