pub mod Written
pub mod Moved
