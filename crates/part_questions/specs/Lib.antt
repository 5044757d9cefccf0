pub mod Parts
pub mod Codes
pub mod Round
pub mod Faults
pub mod Before
