pub mod Bound
pub mod Filling
pub mod Left
