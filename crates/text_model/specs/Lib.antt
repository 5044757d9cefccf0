pub mod Pieces
pub mod Literals
pub mod Precedences
pub mod Flat
pub mod Expressions
pub mod Whole
