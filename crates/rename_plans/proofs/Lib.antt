pub mod Assembled
pub mod Slot
pub mod CodeSoFar
