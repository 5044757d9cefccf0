pub mod Filed
pub mod Said
pub mod Answers
pub mod Loop
