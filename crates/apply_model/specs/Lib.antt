pub mod Lines
pub mod Applied
