pub mod KernelClasses
pub mod KernelCode
pub mod KernelMethods
pub mod KernelNames
pub mod KernelTrees
