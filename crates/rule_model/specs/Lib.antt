pub mod RuleCommands
pub mod RuleLines
pub mod Beside
