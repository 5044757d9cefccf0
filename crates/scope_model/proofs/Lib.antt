pub mod ListsOfNames
pub mod Changed
pub mod Tables
pub mod UsesLemmas
