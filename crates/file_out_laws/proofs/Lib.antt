mod Spelled
mod KernelWords
mod KernelAbove
mod KernelReached
pub mod AritiesSpelled
mod ArgumentsPassed
mod KernelStays
