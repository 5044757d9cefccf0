pub mod Views
pub mod Sought
pub mod Walks
pub mod Classes
