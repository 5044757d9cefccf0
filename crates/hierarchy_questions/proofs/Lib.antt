pub mod Finds
pub mod OwnMethods
pub mod NamesThat
pub mod Parents
pub mod Beside
pub mod Listed
pub mod OwnListed
