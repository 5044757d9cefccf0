pub mod Listed
pub mod Least
pub mod KnownNodes
pub mod MappedReach
pub mod NumberedReach
pub mod Members
