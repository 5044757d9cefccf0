pub mod Retold
