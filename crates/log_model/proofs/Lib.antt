mod EventAnswers
mod OneLog
mod Proposing
mod SomeLog
