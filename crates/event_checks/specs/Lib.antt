pub mod Lists
pub mod Duplicates
pub mod Scopes
pub mod FixedNames
pub mod Heights
