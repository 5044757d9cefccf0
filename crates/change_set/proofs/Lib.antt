pub mod Lists
pub mod Nodes
pub mod Back
pub mod Turns
pub mod Loops
pub mod Swaps
