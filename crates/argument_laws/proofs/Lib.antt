pub mod AlikeTraces
pub mod Gaps
pub mod ShapesWithout
pub mod FoundWithout
pub mod PlainGives
pub mod RunsWithout
pub mod ArgumentGoneMatched
