pub mod Steps
pub mod Before
