pub mod Formatted
pub mod Sources
