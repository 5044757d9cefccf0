pub mod Found
pub mod Meaning
pub mod Slots
pub mod Definers
