pub mod Naming
pub mod Block
