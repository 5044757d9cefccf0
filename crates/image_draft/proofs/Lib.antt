mod Answered
mod Numbers
mod Steps
mod Entries
mod Places
pub mod Differ
pub mod Ordered
mod ClassPlaces
mod NameTests
mod Marks
mod Passed
mod Beside
mod Sound
mod Parts
mod PartsKept
mod Apart
mod Owned
mod Notes
mod PutBack
mod Alone
mod Childless
pub mod MethodClasses
pub mod Drafts
pub mod InOrder
pub mod SlotLists
pub mod SlotTables
pub mod SlotMethods
