pub mod Mentions
pub mod NodeLists
pub mod Listing
