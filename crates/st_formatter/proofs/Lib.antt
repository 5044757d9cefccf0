pub mod Words
pub mod Items
pub mod Turned
pub mod Scans
pub mod Pieces
pub mod WaitingTrees
pub mod Parts
