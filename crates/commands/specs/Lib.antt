pub mod Views
pub mod Actions
