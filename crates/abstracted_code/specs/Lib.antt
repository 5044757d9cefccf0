pub mod Abstracted
pub mod Free
