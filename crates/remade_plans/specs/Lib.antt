pub mod Remade
