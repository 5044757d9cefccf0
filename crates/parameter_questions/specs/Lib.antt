pub mod Found
pub mod Codes
pub mod Questions
pub mod Named
