pub mod Chains
pub mod Parts
pub mod Ready
pub mod Settling
pub mod Tables
