pub mod Parts
pub mod Laws
mod Opening
mod Sealing
pub mod Searched
