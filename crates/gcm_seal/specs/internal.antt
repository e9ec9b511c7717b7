-- What the ciphers are shown by: no contract cites it.
pub mod Laws
