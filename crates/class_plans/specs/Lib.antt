pub mod Removed
pub mod Added
