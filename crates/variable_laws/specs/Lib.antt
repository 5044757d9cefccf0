pub mod KernelDoIts
pub mod OfVariables
