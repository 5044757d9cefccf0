pub mod Reasons
pub mod Refusals
pub mod Explained
pub mod Why
pub mod Spelled
