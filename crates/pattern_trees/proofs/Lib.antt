mod Cut
pub mod Growing
pub mod Read
pub mod Nodes
pub mod Items
pub mod NodeKinds
mod TokenTexts
mod Bytes
mod Sorts
mod Selecting
mod Lists
pub mod Fitting
pub mod Ruling
mod Slices
pub mod Lexing
mod Unmapped
mod Counting
pub mod Counted
