mod ByPlace
mod Chained
mod Ends
mod Split
mod Stated
mod Waking
