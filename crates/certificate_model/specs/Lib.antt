pub mod CertificateTexts
