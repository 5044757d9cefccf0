mod RulesShown
mod FirstFalse
mod OneExplanation
pub mod SomeExplanation
mod OneAnswer
pub mod JudgingSpelled
