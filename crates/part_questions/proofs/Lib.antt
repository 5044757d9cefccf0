pub mod Loops
pub mod Round
pub mod Tests
pub mod Firsts
pub mod Ways
