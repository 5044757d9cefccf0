pub mod Lists
pub mod Metas
pub mod Placed
pub mod Told
