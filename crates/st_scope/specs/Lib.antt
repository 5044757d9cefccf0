pub mod LocalFrom
pub mod Captures
pub mod NameLists
pub mod Parts
