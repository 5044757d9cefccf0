pub mod Questions
pub mod Places
