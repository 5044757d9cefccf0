pub mod RowLemmas
pub mod ListLemmas
pub mod Members
pub mod PlacesOnce
pub mod FreshLemmas
pub mod IndexLemmas
pub mod CodePlaces
