pub mod Changed
pub mod Lower
