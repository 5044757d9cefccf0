pub mod Mentioned
pub mod Rows
pub mod Fresh
pub mod Lists
