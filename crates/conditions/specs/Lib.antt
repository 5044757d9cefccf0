pub mod Reflection
pub mod Concerns
pub mod Unnamed
pub mod Spots
pub mod Messages
