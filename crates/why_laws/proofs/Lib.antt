mod SpelledCode
mod SomeAnswer
