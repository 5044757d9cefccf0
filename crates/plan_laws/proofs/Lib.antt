pub mod Stays
pub mod Applied
pub mod Classes
pub mod CodeAfter
pub mod After
pub mod Whole
