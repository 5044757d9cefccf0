pub mod Blanks
pub mod Cuts
pub mod Doubles
pub mod Sources
pub mod Unique
