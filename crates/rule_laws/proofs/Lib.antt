pub mod RuleHolds
pub mod Applied
pub mod FormsKept
pub mod RuledImages
pub mod NilLeft
