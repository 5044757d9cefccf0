pub mod Leads
pub mod Orders
pub mod LiveMethods
pub mod Removed
pub mod Risen
pub mod Added
pub mod Receivers
pub mod Lowered
