pub mod Mapped
mod Classes
mod Changed
mod Again
mod Placed
