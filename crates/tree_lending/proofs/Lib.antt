pub mod Paths
pub mod Children
pub mod Doits
pub mod Places
