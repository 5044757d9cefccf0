pub mod Saying
pub mod Searched
pub mod Notes
pub mod Rewritten
pub mod Examples
