pub mod Numbered
pub mod Meant
pub mod Told
pub mod Formals
pub mod Reaches
pub mod Found
pub mod Standing
pub mod Highs
