-- Two texts say one rule, which is lawful, or the second has one first fault.
use Rattle.std.proofs.Common.{◌≡◌, ℕ, false, Option, Some, None, refl, sym, ◌∙◌, ◌⊎◌, inl, inr}
use Rattle.rb_base.specs.Names.{text_eq}
use Rattle.token_model.specs.declared.kind.Dialect.TheVariants.{Second}
use Rattle.grammar_model.specs.Terminal.{Text}
use Rattle.grammar_model.proofs.Texts.{IsPatternLexed-same}
use Rattle.pattern_model.specs.Patterns.{PatternOf}
use Rattle.pattern_model.specs.Rewritten.{RuleOf, IsLawfulRule}
use Rattle.pattern_trees.specs.Faults.{meta_places, unbound_in_replacement, twice_doubled}
use Rattle.pattern_trees.proofs.Ruling.{rule_faults}
use Rattle.rewrite_model.specs.Saying.{SaysPattern, Cause, UnboundInReplacement, TwiceDoubled, IsRefusedPattern, SaysReplacement, SaysRule, IsRefusedReplacement, as_pattern, unbound, twice}
use Rattle.rewrite_model.proofs.OnePattern as pattern
use Rattle.rewrite_model.proofs.OnePattern.{one_pattern, lawful_pattern, not_refused, said_or_refused}

-- two texts say a lawful rule
pub lawful_rule : (pattern replacement : Text) (r : RuleOf Text) → SaysRule pattern replacement r → IsLawfulRule text_eq r
lawful_rule pattern replacement r a =
    let b = a.replacement in
    (rule_faults text_eq r.pattern r.replacement (meta_places false b.said.spells.tokens) (lawful_pattern pattern r.pattern a.pattern) (lawful_pattern replacement r.replacement b.said)).0 (b.bound, b.once)

-- a text says one replacement
pub one_replacement : (p : PatternOf Text) (text : Text) (q r : PatternOf Text) → SaysReplacement p text q → SaysReplacement p text r → q ≡ r
one_replacement p text q r a b = one_pattern text q r a.said b.said

-- the tokens of a text are the same in each reading
same_tokens : (text : Text) (q r : PatternOf Text) (a : SaysPattern text q) (b : SaysPattern text r) → a.spells.tokens ≡ b.spells.tokens
same_tokens text q r a b = IsPatternLexed-same Second text a.spells.tokens b.spells.tokens a.spells.lexed b.spells.lexed

-- and so are the faults of its metavariables
same_unbound : (p : PatternOf Text) (text : Text) (q r : PatternOf Text) (a : SaysPattern text q) (b : SaysPattern text r)
    → unbound_in_replacement text_eq p q (meta_places false a.spells.tokens) ≡ unbound_in_replacement text_eq p r (meta_places false b.spells.tokens)
same_unbound p text q r a b = λ j. unbound_in_replacement text_eq p (one_pattern text q r a b j) (meta_places false (same_tokens text q r a b j))

same_twice : (p : PatternOf Text) (text : Text) (q r : PatternOf Text) (a : SaysPattern text q) (b : SaysPattern text r)
    → twice_doubled text_eq p q (meta_places false a.spells.tokens) ≡ twice_doubled text_eq p r (meta_places false b.spells.tokens)
same_twice p text q r a b = λ j. twice_doubled text_eq p (one_pattern text q r a b j) (meta_places false (same_tokens text q r a b j))

-- a text that says a replacement is not refused
pub allowed : (p : PatternOf Text) (text : Text) (q : PatternOf Text) (c : Cause) → SaysReplacement p text q → ¬ IsRefusedReplacement p text c
allowed p text q c a (as_pattern d h) = not_refused text q d a.said h
allowed p text q c a (unbound r at b e) = let bad : None ≡ Some at = sym a.bound ∙ same_unbound p text q r a.said b ∙ e in cc
allowed p text q c a (twice r at b n e) = let bad : None ≡ Some at = sym a.once ∙ same_twice p text q r a.said b ∙ e in cc

-- a replacement is refused for one cause
pub one_cause : (p : PatternOf Text) (text : Text) (c d : Cause) → IsRefusedReplacement p text c → IsRefusedReplacement p text d → c ≡ d
one_cause p text c d (as_pattern v h) (as_pattern w k) = pattern.one_cause text v w h k
one_cause p text c d (as_pattern v h) (unbound q at a e) = absurd (not_refused text q v a h)
one_cause p text c d (as_pattern v h) (twice q at a n e) = absurd (not_refused text q v a h)
one_cause p text c d (unbound q at a e) (as_pattern v h) = absurd (not_refused text q v a h)
one_cause p text c d (unbound q at a e) (unbound r place b l) = let found : Some at ≡ Some place = sym e ∙ same_unbound p text q r a b ∙ l in cc
one_cause p text c d (unbound q at a e) (twice r place b m l) = let bad : Some at ≡ None = sym e ∙ same_unbound p text q r a b ∙ m in cc
one_cause p text c d (twice q at a n e) (as_pattern v h) = absurd (not_refused text q v a h)
one_cause p text c d (twice q at a n e) (unbound r place b l) = let bad : None ≡ Some place = sym n ∙ same_unbound p text q r a b ∙ l in cc
one_cause p text c d (twice q at a n e) (twice r place b m l) = let found : Some at ≡ Some place = sym e ∙ same_twice p text q r a b ∙ l in cc

-- each text says a replacement or is refused
abbrev Told : PatternOf Text → Text → Type 0
Told p text = ((q : PatternOf Text) × SaysReplacement p text q) ⊎ ((c : Cause) × IsRefusedReplacement p text c)

told_once : (p : PatternOf Text) (text : Text) (q : PatternOf Text) (s : SaysPattern text q) (o : Option ℕ)
    → unbound_in_replacement text_eq p q (meta_places false s.spells.tokens) ≡ None → twice_doubled text_eq p q (meta_places false s.spells.tokens) ≡ o → Told p text
told_once p text q s None n e = inl (q, record { said = s; bound = n; once = e })
told_once p text q s (Some at) n e = inr (TwiceDoubled at, twice q at s n e)

told_bound : (p : PatternOf Text) (text : Text) (q : PatternOf Text) (s : SaysPattern text q) (o : Option ℕ)
    → unbound_in_replacement text_eq p q (meta_places false s.spells.tokens) ≡ o → Told p text
told_bound p text q s None e = told_once p text q s (twice_doubled text_eq p q (meta_places false s.spells.tokens)) e refl
told_bound p text q s (Some at) e = inr (UnboundInReplacement at, unbound q at s e)

pub replacement_or_refused : (p : PatternOf Text) (text : Text) → Told p text
replacement_or_refused p text = decide (said_or_refused text)
  where
    decide : ((q : PatternOf Text) × SaysPattern text q) ⊎ ((c : Cause) × IsRefusedPattern text c) → Told p text
    decide (inl (q, s)) = told_bound p text q s (unbound_in_replacement text_eq p q (meta_places false s.spells.tokens)) refl
    decide (inr (c, h)) = inr (c, as_pattern c h)
