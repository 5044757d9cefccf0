mod AddedMethods
mod FirstWords
pub mod Growing
mod Identifiers
mod MethodWords
mod Named
mod PartWords
mod Parts
mod PassedLiterals
mod Reading
mod Selectors
mod Verbs
