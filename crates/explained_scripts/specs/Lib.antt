pub mod Families
pub mod Brought
pub mod Lines
pub mod Refused
pub mod Shown
