pub mod Log
pub mod LogCode
pub mod History
pub mod Called
pub mod Stepping
pub mod Refused
pub mod Making
pub mod Grouping
