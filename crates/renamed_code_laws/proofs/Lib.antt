pub mod Spoken
pub mod NamesAfter
