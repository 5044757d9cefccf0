pub mod Lists
pub mod LiteralWeights
pub mod Pathless
pub mod Complete
pub mod NamesChanged
pub mod Listed
pub mod Unlisted
pub mod Unmentioned
