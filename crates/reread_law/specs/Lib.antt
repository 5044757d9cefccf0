pub mod WellFormed
pub mod Declarations
pub mod WholeTrees
