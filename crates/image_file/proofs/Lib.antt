mod Joined
pub mod Written
pub mod Writable
