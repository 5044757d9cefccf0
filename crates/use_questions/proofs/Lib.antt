pub mod Tests
pub mod Free
pub mod Scopes
pub mod Meanings
pub mod Uses
pub mod Answered
