pub mod Actions
pub mod Steps
pub mod OwnConditions
pub mod Scripts
pub mod Admitted
