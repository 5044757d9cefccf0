pub mod Trees
pub mod Booleans
pub mod Literals
pub mod Machine
pub mod Shapes
pub mod Report
