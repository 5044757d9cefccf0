pub mod SameLength
pub mod Places
pub mod Putting
pub mod Back
mod Weights
