pub mod Lists
pub mod Sources
pub mod Orders
pub mod ViewLemmas
pub mod SwapLemmas
pub mod Middles
pub mod PlacedLemmas
pub mod SlotLemmas
