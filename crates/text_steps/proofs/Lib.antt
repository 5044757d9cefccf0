pub mod FilledMapped
pub mod TextSteps
pub mod MarkTexts
pub mod FreshTexts
