mod Growing
mod Held
mod Looked
mod Chosen
mod Joining
mod Parts
mod Lists
