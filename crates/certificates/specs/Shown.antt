-- The steps of a certificate, as definitions see them.
use Rattle.certified_model.specs.Certificates.{CertStep}
use Rattle.certificates.specs.declared.certificate.Step.{Step}

abbrev pub step_shown : Step → CertStep
step_shown x = record { law = x.law; forward = x.forward; path = x.path }
