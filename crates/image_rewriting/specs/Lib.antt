pub mod Equal
pub mod Changed
pub mod Planned
