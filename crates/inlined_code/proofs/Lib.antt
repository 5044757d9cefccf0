pub mod Answers
pub mod PutFor
pub mod Inlined
