pub mod Spelled
pub mod Asked
pub mod Marks
pub mod Parts
