pub mod First
pub mod Retelling
pub mod Renamed
