pub mod Ends
pub mod Undoing
pub mod Sending
mod FiledIn
