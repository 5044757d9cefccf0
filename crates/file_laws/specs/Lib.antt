pub mod Settling
pub mod Fronts
pub mod Orders
