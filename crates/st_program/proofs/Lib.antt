pub mod LookedUp
pub mod DoIts
pub mod Chains
pub mod Meant
