pub mod Walks
pub mod Numbers
pub mod DoItClass
pub mod Globals
