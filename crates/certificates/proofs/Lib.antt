pub mod Joined
pub mod Digits
pub mod Arrows
pub mod Stopping
pub mod Whole
pub mod BadPlace
pub mod Halting
pub mod Asking
