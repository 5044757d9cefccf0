pub mod Shown
pub mod Asking
pub mod Passing
pub mod Read
