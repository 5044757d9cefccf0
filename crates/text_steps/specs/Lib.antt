pub mod TextSteps
pub mod MarkTexts
