pub mod Held
pub mod Sought
pub mod Sending
pub mod Changed
pub mod Standing
