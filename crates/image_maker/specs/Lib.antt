pub mod Generated
pub mod Layout
