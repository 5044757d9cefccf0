pub mod Entries
pub mod Paying
pub mod Taking
pub mod Scopes
