-- What a part of the reader says where it halts.
use Rattle.std.specs.Prelude.{◌≡◌, ℕ, Option, Some, None}
use Rattle.certified_model.specs.Marks.{Text}
use Rattle.certificates.specs.Stops.{Next, left_from}
use Rattle.certificates.specs.declared.reading.Halt.{Halt}
use Rattle.certificates.specs.declared.reading.Halt.TheVariants as halt
use Rattle.certificates.specs.declared.certificate.CertificateFault.{CertificateFault}
use Rattle.certificates.specs.declared.certificate.CertificateFault.TheVariants as fault

-- the bytes that are left, where memory is not wanting
abbrev pub HaltsFrom : Next → Text → Halt → Type 0
HaltsFrom p t (halt.Bad left) = left_from p t ≡ Some left
HaltsFrom p t halt.Memory = Unit {0}

-- the place of the bad step that a fault tells
abbrev pub bad_at : CertificateFault → Option ℕ
bad_at (fault.BadStep at) = Some at
bad_at fault.Memory = None
