pub mod Behind
pub mod Ends
pub mod Lists
pub mod Steps
