mod Numbers
pub mod Ordered
pub mod OrderKept
pub mod Made
pub mod Moved
pub mod Stays
pub mod Answered
pub mod Doits
mod Reversed
