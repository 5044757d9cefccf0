pub mod Lists
pub mod Mapped
pub mod Runs
pub mod Known
pub mod Making
pub mod Named
pub mod Whole
