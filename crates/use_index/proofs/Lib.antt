pub mod Once
pub mod RowLemmas
pub mod FreshLemmas
pub mod CodePlaces
pub mod Walks
pub mod Looked
pub mod Whole
