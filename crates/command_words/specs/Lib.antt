pub mod Spelling
pub mod Questions
pub mod Forms
