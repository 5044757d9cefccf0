pub mod Queries
pub mod Lines
