pub mod AnyLive
pub mod ChainLaws
