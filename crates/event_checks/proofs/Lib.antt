pub mod Lists
pub mod Repeats
pub mod Changes
pub mod Assigned
pub mod Raised
pub mod Short
pub mod NoneFixed
