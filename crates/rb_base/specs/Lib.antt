pub mod Names
pub mod NameTable
pub mod Doubling
pub mod Outside
pub mod OutputInMemory
pub mod FilesInMemory
pub mod Bytes
