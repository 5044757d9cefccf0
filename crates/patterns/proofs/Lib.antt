pub mod Weights
pub mod NamesSame
