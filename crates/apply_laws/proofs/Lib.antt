pub mod SpelledRequests
mod SpelledLiterals
mod Kept
mod SomeAnswer
