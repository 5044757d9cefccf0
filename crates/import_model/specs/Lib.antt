pub mod Foreign
pub mod Steps
pub mod Imported
