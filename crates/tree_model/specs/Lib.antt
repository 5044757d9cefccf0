pub mod Tree
pub mod AllNames
pub mod Measure
pub mod Path
pub mod Nodes
pub mod Bare
pub mod Normal
pub mod TreeCode
