pub mod OneCertificate
pub mod BadSteps
pub mod Reading
