-- What private functions and the invariant of a reader alone cite.
pub mod Within
pub mod State
