pub mod Low
pub mod High
