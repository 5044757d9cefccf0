mod Declarations
mod Walk
pub mod Images
