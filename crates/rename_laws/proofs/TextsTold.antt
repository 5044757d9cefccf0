-- Names that are told apart.
use Rattle.std.proofs.Common.{◌≡◌, sym, ap, ◌∙◌}
use Rattle.std.proofs.lemmas.Bool.{false≢true}
use Rattle.rb_base.specs.Names.{text_eq}
use Rattle.rb_base.proofs.NamesLemmas.{text_eq-refl}
use Rattle.run_model.specs.Values.{Name}
use Rattle.run_model.proofs.Finite.{by_cases}
use Rattle.run_model.proofs.RenamingLemmas.{text-same}

-- tests of equality do not depend on the order
pub text-turned : (x y : Name) → text_eq x y ≡ text_eq y x
text-turned x y =
    by_cases (text_eq x y) (λ e. e ∙ sym (ap (text_eq y) (text-same x y e) ∙ text_eq-refl y))
    (λ e. by_cases (text_eq y x) (λ f. absurd (false≢true (sym e ∙ ap (text_eq x) (text-same y x f) ∙ text_eq-refl x))) (λ f. e ∙ sym f))
