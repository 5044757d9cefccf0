mod Readings
mod Lines
mod Definitions
mod Names
pub mod Says
pub mod Replacements
mod DoIts
pub mod Fresh
mod Methods
pub mod Prefixes
mod Classes
mod Again
mod Least
mod Same
mod Marked
mod Stays
mod Limits
