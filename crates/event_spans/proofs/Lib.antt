pub mod Built
pub mod Children
pub mod Descended
pub mod InOrder
pub mod Induction
pub mod Members
mod Passed
pub mod PartTold
pub mod RootsPassed
pub mod RunsTold
pub mod Told
pub mod Walked
