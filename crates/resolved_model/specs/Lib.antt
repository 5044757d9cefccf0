pub mod ResolvedTrees
pub mod Resolving
pub mod Environments
pub mod ResolvedImages
pub mod ResolvedActs
pub mod ResolvedShapes
pub mod ResolvedEval
pub mod ResolvedRuns
