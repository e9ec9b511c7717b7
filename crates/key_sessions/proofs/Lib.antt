mod Names
mod Each
mod Fronts
mod Usable
mod Walks
mod Listed
mod Sets
mod Orders
mod Steps
mod Restages
mod Exchanges
mod Exchanged
mod Coming
mod RunLaws
pub mod Held
mod Texts
