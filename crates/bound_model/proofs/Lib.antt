pub mod Through
pub mod Fewer
pub mod Grown
