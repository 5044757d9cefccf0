pub mod Rereading
pub mod Trees
pub mod Least
