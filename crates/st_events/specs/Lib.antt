pub mod Classes
pub mod Answers
pub mod Steps
pub mod Tokens
pub mod Starts
pub mod Stacks
