pub mod Told
pub mod Keywords
pub mod Gathered
pub mod Walked
pub mod FirstPlaces
pub mod Matched
pub mod Numbers
pub mod Searched
pub mod FirstBindings
mod Listed
