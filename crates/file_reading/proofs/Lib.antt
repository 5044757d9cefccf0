pub mod Growing
pub mod WordsOf
pub mod Taking
pub mod TakenSources
pub mod Replacing
pub mod Finishing
pub mod Looping
