pub mod NewNames
pub mod Shown
