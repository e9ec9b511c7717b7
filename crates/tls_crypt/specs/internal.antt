-- What the wrapping under a key is shown by: no contract cites it.
pub mod Laws
