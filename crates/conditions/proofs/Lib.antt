pub mod Unnamed
mod SelfKnown
mod NamesKnown
pub mod Reflecting
pub mod CodeAsked
mod Messages
