pub mod Trees
pub mod Stated
pub mod Behind
pub mod Other
