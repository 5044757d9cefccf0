pub mod ReadsFirst
pub mod Lets
pub mod LetOnce
