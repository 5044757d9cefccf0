mod Acting
pub mod Growing
mod Reading
mod Telling
