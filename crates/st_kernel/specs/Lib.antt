pub mod KernelText
pub mod Selectors
