pub mod Draws
pub mod EffectLine
pub mod EventLine
pub mod NoteText
pub mod RouteLine
pub mod SealLines
pub mod Words
pub mod internal
