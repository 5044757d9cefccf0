pub mod SpelledRequests
