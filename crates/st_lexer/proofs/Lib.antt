pub mod Bases
pub mod Items
