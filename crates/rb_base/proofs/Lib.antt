pub mod NamesLemmas
pub mod Sending
mod TableLemmas
