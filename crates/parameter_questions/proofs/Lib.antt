pub mod Kept
pub mod Plain
pub mod Reading
pub mod AtSlots
pub mod Answered
pub mod Declared
