pub mod Replies
pub mod Steady
