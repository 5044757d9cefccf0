pub mod Inlined
pub mod Behind
pub mod Extractions
