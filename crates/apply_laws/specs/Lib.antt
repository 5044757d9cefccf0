pub mod Promised
pub mod FileOuts
