-- What private functions and the invariant of a hash key alone cite.
pub mod Multiples
