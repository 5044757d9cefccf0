use Rattle.std.proofs.Common.{◌≡◌, ◌∙◌, ◌++◌, [], ◌∷◌, sym, ap, arith}
use Rattle.std.specs.Prelude.{codes}
use Rattle.std.specs.Fmt.{decimal}
use Rattle.std.proofs.lemmas.Fmt.{decimal_digit, decimal_step}
use Rattle.certified_model.specs.Marks.{Text}
use Rattle.certificate_model.proofs.OneCertificate.{one_certificate}
use Rattle.certificate_model.proofs.BadSteps.{one_place}
use Rattle.certificate_model.proofs.Reading.{said_or_bad}
use Rattle.certificate_model.proofs.laws.has_one_certificate.Goals as goal

-- numbers as they are written
none : codes "0" ≡ decimal 0
none = sym (decimal_digit 0 (omega arith))

one : codes "1" ≡ decimal 1
one = sym (decimal_digit 1 (omega arith))

two : codes "2" ≡ decimal 2
two = sym (decimal_digit 2 (omega arith))

ten : codes "10" ≡ decimal 10
ten = ap (λ (t : Text). t ++ 48 ∷ []) one ∙ sym (decimal_step 10 (omega arith) (omega arith))

twelve : codes "12" ≡ decimal 12
twelve = ap (λ (t : Text). t ++ 50 ∷ []) one ∙ sym (decimal_step 12 (omega arith) (omega arith))

pub returns-clause-either : goal.returns-clause-either
returns-clause-either c = said_or_bad

pub returns-clause-one : goal.returns-clause-one
returns-clause-one c = one_certificate

pub returns-clause-refused : goal.returns-clause-refused
returns-clause-refused c = λ text xs at says bad. bad.none xs says

pub returns-clause-one_place : goal.returns-clause-one_place
returns-clause-one_place c = one_place

pub returns-clause-example : goal.returns-clause-example
returns-clause-example c = record {
  some = λ e. cc;
  steps = (
    record { from_one = omega arith; to_ten = omega arith; path = tt },
    (record { from_one = omega arith; to_ten = omega arith; path = (omega arith, (omega arith, (omega arith, tt))) }, tt),
  );
  spelled = λ i. (codes "+" ++ (two i ++ (codes "@" ++ []))) ++ (((44 ∷ []) ++ (codes "-" ++ (ten i ++ (codes "@" ++ (one i ++ (((46 ∷ []) ++ none i) ++ (((46 ∷ []) ++ twelve i) ++ []))))))) ++ []);
}
