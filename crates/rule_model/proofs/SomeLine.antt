-- What stands behind the word of the command asks for something, or for nothing.
use Rattle.std.proofs.Common.{◌≡◌, ◌⊎◌, inl, inr, ℕ, zero, suc, ◌<◌, Bool, true, false, List, [], ◌∷◌, ◌++◌, length, drop, refl, sym, ap, ◌∙◌, arith}
use Rattle.std.specs.Prelude.{Result, Ok, Err, nat_eq}
use Rattle.std.proofs.lemmas.Bool.{eqb-true, eq-eqb, false≢true}
use Rattle.pattern_model.specs.Patterns.{PatternOf}
use Rattle.certified_model.specs.Marks.{Text}
use Rattle.certified_model.specs.Certificates.{CertStep}
use Rattle.rewrite_model.specs.Saying.{SaysPattern, Cause, IsRefusedPattern, SaysReplacement, IsRefusedReplacement}
use Rattle.certificate_model.specs.CertificateTexts.{SaysCertificate, HasBadStep}
use Rattle.rule_model.specs.RuleCommands.{RuleCommand}
use Rattle.rule_model.specs.RuleLines.{arrow, steps_of, texts_of, HasArrowAt, IsCut, BadSteps, NoArrow, BadPattern, BadReplacement, RuleLineSays, Asks, AsksNot}

-- whether a text begins with another one
begins_with : (a t : Text) → ((rest : Text) × (t ≡ a ++ rest)) ⊎ ((rest : Text) → t ≡ a ++ rest → ⊥)
begins_with [] t = inl (t, refl)
begins_with (x ∷ a) [] = inr (λ rest e. cc)
begins_with (x ∷ a) (y ∷ t) = by (nat_eq y x) refl (begins_with a t)
  where
    by : (b : Bool) → nat_eq y x ≡ b → ((rest : Text) × (t ≡ a ++ rest)) ⊎ ((rest : Text) → t ≡ a ++ rest → ⊥) → ((rest : Text) × (y ∷ t ≡ x ∷ (a ++ rest))) ⊎ ((rest : Text) → y ∷ t ≡ x ∷ (a ++ rest) → ⊥)
    by true e (inl h) = let first : y ≡ x = eqb-true y x e in inl (h.0, (λ i. first i ∷ h.1 i))
    by true e (inr h) = inr (λ rest f. (let others : t ≡ a ++ rest = cc in h rest others))
    by false e o = inr (λ rest f. (let first : y ≡ x = cc in false≢true (sym e ∙ eq-eqb y x first)))

nothing_dropped : (k : ℕ) → drop {A = ℕ} k [] ≡ []
nothing_dropped zero = refl
nothing_dropped (suc k) = refl

-- the first arrow
cut_or_none : (t : Text) → ((first : Text) × (second : Text) × IsCut t first second) ⊎ ((k : ℕ) → HasArrowAt t k → ⊥)
cut_or_none [] = inr (λ k h. (let none : [] ≡ arrow ++ h.0 = sym (nothing_dropped k) ∙ h.1 in cc))
cut_or_none (b ∷ t) = by (begins_with arrow (b ∷ t)) (cut_or_none t)
  where
    by : ((rest : Text) × (b ∷ t ≡ arrow ++ rest)) ⊎ ((rest : Text) → b ∷ t ≡ arrow ++ rest → ⊥) → ((first : Text) × (second : Text) × IsCut t first second) ⊎ ((k : ℕ) → HasArrowAt t k → ⊥) →
        ((first : Text) × (second : Text) × IsCut (b ∷ t) first second) ⊎ ((k : ℕ) → HasArrowAt (b ∷ t) k → ⊥)
    by (inl h) o = inl ([], h.0, record { parts = h.1; earliest = λ k l a. omega (arith, l) })
    by (inr h) (inl c) = inl (b ∷ c.0, c.1, record { parts = ap (λ (s : Text). b ∷ s) c.2.parts; earliest = λ k l a. earlier k l a })
      where
        earlier : (k : ℕ) → k < length (b ∷ c.0) → HasArrowAt (b ∷ t) k → ⊥
        earlier zero l a = h a.0 a.1
        earlier (suc k) l a = c.2.earliest k (omega (arith, l)) a
    by (inr h) (inr n) = inr nowhere
      where
        nowhere : (k : ℕ) → HasArrowAt (b ∷ t) k → ⊥
        nowhere zero a = h a.0 a.1
        nowhere (suc k) a = n k a

module _ (certificate : (text : Text) → ((xs : List CertStep) × SaysCertificate text xs) ⊎ ((at : ℕ) × HasBadStep text at))
    (pattern : (text : Text) → ((p : PatternOf Text) × SaysPattern text p) ⊎ ((c : Cause) × IsRefusedPattern text c))
    (replacement : (p : PatternOf Text) (text : Text) → ((q : PatternOf Text) × SaysReplacement p text q) ⊎ ((c : Cause) × IsRefusedReplacement p text c)) where
  pub some_answer : (t : Text) → (x : Result RuleCommand (Unit {0})) × RuleLineSays t x
  some_answer t = steps (certificate (steps_of t))
    where
      second : (xs : List CertStep) → SaysCertificate (steps_of t) xs → (c : (f : Text) × (s : Text) × IsCut (texts_of t) f s) → (p : (p : PatternOf Text) × SaysPattern c.0 p) →
          ((q : PatternOf Text) × SaysReplacement p.0 c.1 q) ⊎ ((e : Cause) × IsRefusedReplacement p.0 c.1 e) → (x : Result RuleCommand (Unit {0})) × RuleLineSays t x
      second xs s c p (inl q) =
          let command : RuleCommand = record { certificate = xs; rule = record { pattern = p.0; replacement = q.0 } } in
          (Ok command, Asks command (record { first = c.0; second = c.1; certificate = s; cut = c.2; rule = record { pattern = p.1; replacement = q.1 } }))
      second xs s c p (inr e) = (Err tt, AsksNot (BadReplacement c.0 c.1 p.0 e.0 c.2 p.1 e.1))

      first : (xs : List CertStep) → SaysCertificate (steps_of t) xs → (c : (f : Text) × (s : Text) × IsCut (texts_of t) f s) → ((p : PatternOf Text) × SaysPattern c.0 p) ⊎ ((e : Cause) × IsRefusedPattern c.0 e) → (x : Result RuleCommand (Unit {0})) × RuleLineSays t x
      first xs s c (inl p) = second xs s c p (replacement p.0 c.1)
      first xs s c (inr e) = (Err tt, AsksNot (BadPattern c.0 c.1 e.0 c.2 e.1))

      texts : (xs : List CertStep) → SaysCertificate (steps_of t) xs → ((f : Text) × (s : Text) × IsCut (texts_of t) f s) ⊎ ((k : ℕ) → HasArrowAt (texts_of t) k → ⊥) → (x : Result RuleCommand (Unit {0})) × RuleLineSays t x
      texts xs s (inl c) = first xs s c (pattern c.0)
      texts xs s (inr n) = (Err tt, AsksNot (NoArrow n))

      steps : ((xs : List CertStep) × SaysCertificate (steps_of t) xs) ⊎ ((at : ℕ) × HasBadStep (steps_of t) at) → (x : Result RuleCommand (Unit {0})) × RuleLineSays t x
      steps (inl c) = texts c.0 c.1 (cut_or_none (texts_of t))
      steps (inr b) = (Err tt, AsksNot (BadSteps b.0 b.1))
