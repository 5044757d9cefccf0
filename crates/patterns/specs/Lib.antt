pub mod PatternCode
pub mod Weights
pub mod View
pub mod Falls
pub mod Names
