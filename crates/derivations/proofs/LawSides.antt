-- The sides of the law of a step.
use Rattle.std.proofs.Common.{◌≡◌, ℕ, Bool, true, false, List, Option, Some, None, refl}
use Rattle.std.specs.Prelude.{if◌then◌else◌, option_map}
use Rattle.pattern_model.specs.Patterns.{PatternOf}
use Rattle.certified_model.specs.Marks.{Text}
use Rattle.certified_model.specs.Certificates.{CertStep, laws, numbered_law, goes_back, sides_of}
use Rattle.derivations.specs.Words.{by_numbers}

abbrev Sides : Type 0 → Type 0
Sides N = PatternOf N × PatternOf N

module _ (names : List Text) where
  abbrev first : Sides Text → PatternOf ℕ
  first s = by_numbers names s.0

  abbrev second : Sides Text → PatternOf ℕ
  second s = by_numbers names s.1

  abbrev both : Sides Text → Sides ℕ
  both s = (first s, second s)

  module _ (x : CertStep) where
    abbrev law : Option (Sides Text)
    law = numbered_law x.law laws

    no_one : (o : Option (Sides Text)) → o ≡ None → (b c : Bool) → None ≡ option_map both (if b then o else if c then option_map (λ (s : Sides Text). (s.1, s.0)) o else None)
    no_one None e true c = refl
    no_one None e false true = refl
    no_one None e false false = refl
    no_one (Some s) e b c = let bad : ⊥ = cc in absurd bad

    none_of : {A : Type 0} (f : Sides Text → A) (o : Option (Sides Text)) → None ≡ option_map f o → o ≡ None
    none_of f None e = refl
    none_of f (Some s) e = let bad : ⊥ = cc in absurd bad

    pub no_left : None ≡ option_map first law → None ≡ option_map both (sides_of x)
    no_left e = no_one law (none_of first law e) x.forward (goes_back x.law)

    pub no_right : None ≡ option_map second law → None ≡ option_map both (sides_of x)
    no_right e = no_one law (none_of second law e) x.forward (goes_back x.law)
