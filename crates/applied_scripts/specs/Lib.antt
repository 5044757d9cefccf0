pub mod Refused
pub mod Changed
