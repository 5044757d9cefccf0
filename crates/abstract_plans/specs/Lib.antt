pub mod Abstracted
