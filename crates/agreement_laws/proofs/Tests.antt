-- Tests of alternatives, sides and names, and what their answers say.
use Rattle.std.proofs.Common.{◌≡◌, Option, Some, None, refl, sym, ap, ◌∙◌}
use Rattle.std.specs.Prelude.{Bool, true, false, ◌||◌}
use Rattle.std.proofs.Math.Bool.{beq}
use Rattle.std.specs.Option.{option_eq, option_map_or}
use Rattle.std.proofs.lemmas.Bool.{false≢true}
use Rattle.rb_base.specs.Names.{text_eq}
use Rattle.run_model.specs.Values.{Name}
use Rattle.run_model.proofs.RenamingLemmas.{text-same}

-- the second of two alternatives where the first is not
pub second : (a b : Bool) → a ≡ false → (a || b) ≡ true → b ≡ true
second a b e h = sym (ap (λ x. x || b) e) ∙ h

-- sides and names that are told to be the same are
pub sides-same : (a b : Bool) → beq a b ≡ true → a ≡ b
sides-same true true h = refl
sides-same false false h = refl
sides-same true false h = absurd (false≢true h)
sides-same false true h = absurd (false≢true h)

pub any-names-same : (o p : Option Name) → option_eq text_eq o p ≡ true → o ≡ p
any-names-same None None h = refl
any-names-same (Some x) (Some y) h = ap Some (text-same x y h)
any-names-same None (Some y) h = absurd (false≢true h)
any-names-same (Some x) None h = absurd (false≢true h)

-- the class that there is
pub class-there : (c : Name) (o : Option Name) → option_map_or (text_eq c) o false ≡ true → o ≡ Some c
class-there c (Some d) h = ap Some (sym (text-same c d h))
class-there c None h = absurd (false≢true h)
