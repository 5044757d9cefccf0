mod ResolvedStores
pub mod Environments
pub mod ResolvingLemmas
pub mod LookupLemmas
pub mod ShapeLemmas
pub mod RunLemmas
