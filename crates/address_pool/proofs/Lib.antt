pub mod Takings
pub mod Coming
