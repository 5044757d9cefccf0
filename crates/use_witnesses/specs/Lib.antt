pub mod Uses
pub mod Arguments
pub mod Reached
pub mod Inherited
pub mod Targets
pub mod Brought
pub mod Heights
