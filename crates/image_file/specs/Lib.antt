pub mod Writable
pub mod Runs
