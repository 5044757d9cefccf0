mod Slots
mod Orderly
mod Views
