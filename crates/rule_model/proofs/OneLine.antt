-- What stands behind the word of the command asks for one thing.
use Rattle.std.proofs.Common.{◌≡◌, ◌⊎◌, inl, inr, ◌<◌, ◌≤◌, [], ◌∷◌, ◌++◌, length, drop, refl, sym, ap, subst, ◌∙◌, arith}
use Rattle.std.specs.Prelude.{Result, Ok}
use Rattle.std.proofs.lemmas.Bool.{cases_lt}
use Rattle.pattern_model.specs.Patterns.{PatternOf}
use Rattle.pattern_model.specs.Rewritten.{RuleOf}
use Rattle.certified_model.specs.Marks.{Text}
use Rattle.rewrite_model.specs.Saying.{SaysPattern, Cause, IsRefusedPattern, SaysReplacement, SaysRule, IsRefusedReplacement}
use Rattle.rule_model.specs.RuleCommands.{RuleCommand}
use Rattle.rule_model.specs.RuleLines.{arrow, steps_of, texts_of, HasArrowAt, IsCut, AsksForRule, AsksForNone, BadSteps, NoArrow, BadPattern, BadReplacement, RuleLineSays, Asks, AsksNot}
use Rattle.certificate_model.proofs.OneCertificate.{one_certificate}

dropped : (s r : Text) → drop (length s) (s ++ r) ≡ r
dropped [] r = refl
dropped (b ∷ s) r = dropped s r

arrow_there : (t first second : Text) → IsCut t first second → HasArrowAt t (length first)
arrow_there t first second c = (second, ap (drop (length first)) c.parts ∙ dropped first (arrow ++ second))

-- beginnings of one length of one text
same_front : (u v r s : Text) → length u ≡ length v → u ++ r ≡ v ++ s → (u ≡ v) × (r ≡ s)
same_front [] [] r s l e = (refl, e)
same_front [] (b ∷ v) r s l e = absurd (omega (arith, l))
same_front (a ∷ u) [] r s l e = absurd (omega (arith, l))
same_front (a ∷ u) (b ∷ v) r s l e =
    let first : a ≡ b = cc in
    let others : u ++ r ≡ v ++ s = cc in
    let rest = same_front u v r s (omega (arith, l)) others in
    ((λ i. first i ∷ rest.0 i), rest.1)

behind_arrow : (r s : Text) → arrow ++ r ≡ arrow ++ s → r ≡ s
behind_arrow r s e = cc

one_cut : (t f s g r : Text) → IsCut t f s → IsCut t g r → (f ≡ g) × (s ≡ r)
one_cut t f s g r c d = by (cases_lt (length f) (length g)) (cases_lt (length g) (length f))
  where
    by : (length f < length g) ⊎ (length g ≤ length f) → (length g < length f) ⊎ (length f ≤ length g) → (f ≡ g) × (s ≡ r)
    by (inl l) o = absurd (d.earliest (length f) l (arrow_there t f s c))
    by (inr l) (inl m) = absurd (c.earliest (length g) m (arrow_there t g r d))
    by (inr l) (inr m) = let same = same_front f g (arrow ++ s) (arrow ++ r) (omega (arith, l, m)) (sym c.parts ∙ d.parts) in (same.0, behind_arrow s r same.1)

module _ (one_pattern : (text : Text) (p q : PatternOf Text) → SaysPattern text p → SaysPattern text q → p ≡ q)
    (not_refused : (text : Text) (p : PatternOf Text) (c : Cause) → SaysPattern text p → ¬ IsRefusedPattern text c)
    (one_replacement : (p : PatternOf Text) (text : Text) (q r : PatternOf Text) → SaysReplacement p text q → SaysReplacement p text r → q ≡ r)
    (allowed : (p : PatternOf Text) (text : Text) (q : PatternOf Text) (c : Cause) → SaysReplacement p text q → ¬ IsRefusedReplacement p text c) where
  one_rule : (first second : Text) (r q : RuleOf Text) → SaysRule first second r → SaysRule first second q → r ≡ q
  one_rule first second r q a b =
      let patterns = one_pattern first r.pattern q.pattern a.pattern b.pattern in
      let others = one_replacement q.pattern second r.replacement q.replacement (subst (λ (p : PatternOf Text). SaysReplacement p second r.replacement) patterns a.replacement) b.replacement in
      λ i. record { pattern = patterns i; replacement = others i }

  same_texts : (f s g r : Text) (x : RuleOf Text) → f ≡ g → s ≡ r → SaysRule f s x → SaysRule g r x
  same_texts f s g r x p q a = subst (λ (z : Text). SaysRule g z x) q (subst (λ (z : Text). SaysRule z s x) p a)

  one_command : (t : Text) (c d : RuleCommand) → AsksForRule t c → AsksForRule t d → c ≡ d
  one_command t c d a b =
      let certificates = one_certificate (steps_of t) c.certificate d.certificate a.certificate b.certificate in
      let texts = one_cut (texts_of t) a.first a.second b.first b.second a.cut b.cut in
      let rules = one_rule b.first b.second c.rule d.rule (same_texts a.first a.second b.first b.second c.rule texts.0 texts.1 a.rule) b.rule in
      λ i. record { certificate = certificates i; rule = rules i }

  not_both : (t : Text) (c : RuleCommand) → AsksForRule t c → ¬ AsksForNone t
  not_both t c a (BadSteps at h) = h.none c.certificate a.certificate
  not_both t c a (NoArrow h) = h (length a.first) (arrow_there (texts_of t) a.first a.second a.cut)
  not_both t c a (BadPattern first second cause d h) =
      let texts = one_cut (texts_of t) a.first a.second first second a.cut d in
      not_refused first c.rule.pattern cause (subst (λ (z : Text). SaysPattern z c.rule.pattern) texts.0 a.rule.pattern) h
  not_both t c a (BadReplacement first second p cause d says h) =
      let texts = one_cut (texts_of t) a.first a.second first second a.cut d in
      let same = one_pattern first c.rule.pattern p (subst (λ (z : Text). SaysPattern z c.rule.pattern) texts.0 a.rule.pattern) says in
      allowed p second c.rule.replacement cause
      (subst (λ (q : PatternOf Text). SaysReplacement q second c.rule.replacement) same (subst (λ (z : Text). SaysReplacement c.rule.pattern z c.rule.replacement) texts.1 a.rule.replacement)) h

  pub one_answer : (t : Text) (x y : Result RuleCommand (Unit {0})) → RuleLineSays t x → RuleLineSays t y → x ≡ y
  one_answer t x y (Asks c a) (Asks d b) = ap (λ (z : RuleCommand). Ok z) (one_command t c d a b)
  one_answer t x y (Asks c a) (AsksNot b) = absurd (not_both t c a b)
  one_answer t x y (AsksNot a) (Asks d b) = absurd (not_both t d b a)
  one_answer t x y (AsksNot a) (AsksNot b) = refl
