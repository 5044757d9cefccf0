pub mod Bodies
pub mod Turns
pub mod Known
pub mod Parts
pub mod Waiting
