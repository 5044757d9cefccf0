pub mod Blank
pub mod Left
pub mod Chunks
pub mod Source
pub mod Room
