pub mod LookUps
pub mod Listed
pub mod Touched
pub mod Bounds
