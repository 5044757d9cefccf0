pub mod Arguments
pub mod Taking
pub mod Saying
pub mod Written
pub mod Looping
