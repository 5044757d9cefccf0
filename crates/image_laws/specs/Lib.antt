pub mod Placed
pub mod Replacing
pub mod Orders
