pub mod Places
pub mod PeerIds
pub mod Lists
pub mod Pairs
pub mod Rising
pub mod Lending
