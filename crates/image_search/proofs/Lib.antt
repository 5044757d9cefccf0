pub mod Standing
pub mod Records
pub mod Wholes
