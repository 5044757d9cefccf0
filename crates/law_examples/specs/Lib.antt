pub mod PatternExamples
pub mod ParameterExamples
pub mod StripExamples
pub mod CertificateExamples
pub mod UnfoldedExamples
