pub mod Plug
pub mod Naming
pub mod Values
pub mod Begun
pub mod Exits
pub mod Ordered
pub mod Primitives
