pub mod Statuses
pub mod Loads
pub mod ImageLines
pub mod Answers
