pub mod Lets
pub mod Uses
pub mod Valuing
pub mod Changes
