pub mod Reach
pub mod Stripped
pub mod Within
pub mod Mapped
pub mod Members
