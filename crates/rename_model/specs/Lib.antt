pub mod CommandWords
pub mod NamesThere
pub mod Conditions
pub mod Renamed
pub mod ClassRenamed
pub mod SelectorRenamed
pub mod VariableRenamed
pub mod OneRenamed
