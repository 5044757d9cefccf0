mod Braces
mod Sources
pub mod Refused
pub mod Taking
pub mod Sound
pub mod Settled
pub mod Moves
pub mod Redefined
pub mod Repeats
pub mod Defined
pub mod Below
mod Named
pub mod Methods
mod Chains
mod KernelOrder
mod KernelPart
mod Beside
mod KernelClasses
mod Kept
pub mod Whole
mod Plain
pub mod OtherOrder
pub mod OtherOrderLooks
pub mod SettledAgain
pub mod PutAgain
pub mod KernelInFront
pub mod PlacedImages
pub mod OtherOrderRefusals
pub mod OtherOrderChanges
pub mod Reordered
pub mod FrontKept
pub mod AllOfKernel
