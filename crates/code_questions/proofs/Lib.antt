pub mod Witnesses
pub mod AtPlaces
pub mod Mentioning
