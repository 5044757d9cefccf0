pub mod Capped
pub mod Items
pub mod Arms
