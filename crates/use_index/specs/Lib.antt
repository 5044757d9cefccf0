pub mod Uses
pub mod Code
pub mod Rows
pub mod Index
pub mod Paths
pub mod Fresh
pub mod Found
