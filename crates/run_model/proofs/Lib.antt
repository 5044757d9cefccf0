mod SmallImages
mod ExpressionExamples
mod ProgramExamples
mod SequenceExamples
mod FurtherExamples
pub mod Congruence
pub mod MoreTicks
pub mod Depth
pub mod Finite
mod ControlLemmas
mod LayoutLemmas
pub mod RenamingLemmas
pub mod MatchedLemmas
pub mod PrimitiveLemmas
