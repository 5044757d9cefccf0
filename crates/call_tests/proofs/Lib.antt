pub mod Blank
pub mod Family
