pub mod BehindKernel
pub mod VariablesOnce
