pub mod Stacks
pub mod Held
pub mod Naming
pub mod Trees
