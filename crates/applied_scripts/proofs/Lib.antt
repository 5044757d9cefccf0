pub mod NewNames
pub mod Answering
mod Performed
pub mod SelfKnown
