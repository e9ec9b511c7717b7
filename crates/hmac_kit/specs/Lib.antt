pub mod Hmac
pub mod Hashers
pub mod Prf
pub mod KeyDerivation
