-- The texts of certificates.
use Rattle.std.specs.Prelude.{◌≡◌, ◌≢◌, ℕ, suc, ◌≤◌, ◌<◌, if◌then◌else◌, List, [], ◌++◌, map, length, take, codes}
use Rattle.std.specs.List.{AllByRecursion}
use Rattle.std.specs.Fmt.{decimal}
use Rattle.text_model.specs.Pieces.{pieces_joined}
use Rattle.certified_model.specs.Marks.{Text}
use Rattle.certified_model.specs.Certificates.{CertStep}

-- a path: its numbers, with periods between; nothing for the root
abbrev pub path_text : List ℕ → Text
path_text path = pieces_joined (codes ".") (map decimal path)

-- a step: plus or minus, the number of its law, an at sign and its path
abbrev pub step_text : CertStep → Text
step_text x = (if x.forward then codes "+" else codes "-") ++ (decimal x.law ++ (codes "@" ++ path_text x.path))

-- steps with commas between
abbrev pub certificate_text : List CertStep → Text
certificate_text xs = pieces_joined (codes ",") (map step_text xs)

-- a number of at most nine digits
abbrev pub HasNineDigits : ℕ → Type 0
HasNineDigits n = n ≤ 999999999

-- a step by one of the ten laws
pub record IsStep (x : CertStep) : Type 0 where
  pub from_one : 1 ≤ x.law
  pub to_ten : x.law ≤ 10
  pub path : AllByRecursion HasNineDigits x.path

-- a text says a certificate: at least one step
pub record SaysCertificate (text : Text) (xs : List CertStep) : Type 0 where
  pub some : xs ≢ []
  pub steps : AllByRecursion IsStep xs
  pub spelled : text ≡ certificate_text xs

-- a text that goes on to one that says a certificate, or says one
pub record BeginsCertificate (text : Text) : Type 0 where
  pub rest : Text
  pub steps : List CertStep
  pub says : SaysCertificate (text ++ rest) steps

-- The text says no certificate, and the byte at this place is the first that continues none: what stands before it is the beginning of one. Where the whole text is such a beginning, that is its end, where more is wanted.
pub record HasBadStep (text : Text) (at : ℕ) : Type 0 where
  pub within : at ≤ length text
  pub before : BeginsCertificate (take at text)
  pub no_further : at < length text → ¬ BeginsCertificate (take (suc at) text)
  pub none : (xs : List CertStep) → ¬ SaysCertificate text xs
