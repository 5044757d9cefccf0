mod Scripted
mod Spelled
mod Kept
mod SomeAnswer
