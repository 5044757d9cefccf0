pub mod LawSteps
pub mod Marks
pub mod Certificates
