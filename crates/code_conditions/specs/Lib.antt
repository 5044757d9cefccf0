pub mod HighCode
pub mod Passes
pub mod Trees
