pub mod Routes
pub mod Written
pub mod Records
