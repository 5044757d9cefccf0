pub mod Shown
pub mod Asked
pub mod Stops
pub mod Halts
