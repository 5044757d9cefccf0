pub mod Orders
pub mod Gone
pub mod Before
pub mod Moves
pub mod Coming
pub mod Made
