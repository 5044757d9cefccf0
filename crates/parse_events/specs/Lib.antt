pub mod Boxed
pub mod Found
