pub mod Unfolding
pub mod SendsOnly
pub mod SameContexts
