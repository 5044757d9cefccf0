pub mod Arities
pub mod ArgumentsChanged
