pub mod Codes
pub mod Targets
pub mod Kept
pub mod Bound
pub mod Actuals
