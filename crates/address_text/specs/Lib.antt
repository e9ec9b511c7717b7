pub mod AddressText
