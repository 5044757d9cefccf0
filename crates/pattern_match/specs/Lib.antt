pub mod Words
pub mod Gathering
pub mod FirstPlaces
pub mod Parts
pub mod Bound
