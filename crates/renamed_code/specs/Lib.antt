pub mod Anew
pub mod ChangedCode
pub mod Standing
pub mod Renamings
