pub mod Found
pub mod Meanings
pub mod Moves
pub mod Supers
pub mod Reached
pub mod Unreached
