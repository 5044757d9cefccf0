pub mod Marks
pub mod Pieces
pub mod Unread
pub mod Given
