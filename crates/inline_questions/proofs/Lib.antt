pub mod Targeted
pub mod Rivals
pub mod Fit
pub mod Between
pub mod Above
pub mod Passed
