pub mod Signs
pub mod Numbered
pub mod Named
pub mod Words
pub mod Sides
pub mod Turned
pub mod Taken
pub mod Stuck
