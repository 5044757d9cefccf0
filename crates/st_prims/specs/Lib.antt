pub mod Walks
pub mod Closures
pub mod Rows
