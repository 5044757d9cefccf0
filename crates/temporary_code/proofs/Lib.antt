pub mod NamesKept
pub mod SameMethods
