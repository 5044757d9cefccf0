pub mod SpecialNames
pub mod Control
pub mod Scope
pub mod FreeNames
pub mod Uses
pub mod NameTests
