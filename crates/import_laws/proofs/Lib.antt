pub mod Starts
pub mod Sources
pub mod Steps
pub mod Stays
pub mod Left
