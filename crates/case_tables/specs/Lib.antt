pub mod CaseTexts
pub mod TableFaults
