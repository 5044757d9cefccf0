pub mod Sought
pub mod LiveClasses
