pub mod Spelling
pub mod Values
pub mod Printed
pub mod Reading
pub mod Canonical
pub mod Numbers
pub mod Bounds
pub mod internal
