pub mod Reaching
pub mod AgreeingImages
pub mod KernelChains
