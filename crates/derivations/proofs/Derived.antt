-- The whole certificate of a rule.
use Rattle.std.proofs.Common.{◌≡◌, ℕ, ◌+◌, ◌<◌, ◌≤◌, true, List, [], ◌∷◌, ◌++◌, length, map, Option, refl, sym, ap, subst, ◌∙◌, arith, length-append}
use Rattle.std.specs.List.{AllByRecursion}
use Rattle.rb_base.specs.Names.{name_at, HasNoTwice}
use Rattle.tree_model.specs.Tree.{SequenceOf}
use Rattle.event_trees.specs.Naming.{Grows}
use Rattle.event_trees.proofs.Known.{Grows-none}
use Rattle.pattern_model.specs.Patterns.{PatternOf}
use Rattle.pattern_model.specs.Named.{map_pattern}
use Rattle.patterns.specs.Names.{PatternNames}
use Rattle.rewritten_code.proofs.Growing.{same_pattern}
use Rattle.rewritten_code.proofs.PatternsSame.{pattern_implies}
use Rattle.certified_model.specs.Marks.{Text, marked_tree}
use Rattle.certified_model.specs.Certificates.{CertStep, stuck_from, stuck_at}
use Rattle.derivations.specs.Signs.{Sign, signs}
use Rattle.derivations.specs.Numbered.{Table, numbered}
use Rattle.derivations.specs.Named.{has_sign, IsNamedOnce}
use Rattle.derivations.specs.Taken.{only, SignNames, AreOnce, IsTable, AreKnown, IsStuck}
use Rattle.derivations.proofs.Once.{all_once, all_there, all_keep, all_both, all_first, all_second}
use Rattle.derivations.proofs.MarkTexts.{Row}
use Rattle.derivations.proofs.Known.{tree_known, signs_named}
use Rattle.derivations.proofs.Marked.{marked_at}

-- as many texts as marks
as_many : (rows : List Row) → length (map (λ (r : Row). r.0) rows) ≡ length (map (λ (r : Row). r.1) rows)
as_many [] = refl
as_many (r ∷ rs) = omega (arith, as_many rs)

pub some_steps : (xs : List CertStep) (p q : PatternOf Text) → (xs ≡ [] → ⊥) → stuck_from 1 xs (marked_tree q) (marked_tree p) ≡ stuck_at xs p q
some_steps [] p q h = absurd (h refl)
some_steps (x ∷ xs) p q h = refl

longer : {names later : List Text} → Grows names later → length names ≤ length later
longer {names} g = let e = ap length g.grown ∙ length-append names g.more in omega (arith, e)

module _ {names between later : List Text} (first : Grows names between) (whole : Grows names later) (p q : PatternOf ℕ) (pk : PatternNames (λ n. n < length names) p) (qk : PatternNames (λ n. n < length names) q) (table : Table) (made : IsNamedOnce between (signs p ++ signs q) table later) where
  abbrev Before : ℕ → Type 0
  Before n = n < table.first

  abbrev There : Sign → Type 0
  There s = has_sign table.signs s ≡ true

  before : (n : ℕ) → n < length names → Before n
  before n l = omega (arith, l, made.first, longer first)

  p_before : PatternNames Before p
  p_before = pattern_implies (λ n. n < length names) Before before p pk

  q_before : PatternNames Before q
  q_before = pattern_implies (λ n. n < length names) Before before q qk

  all_in : AllByRecursion There (signs p ++ signs q)
  all_in = subst (λ (ss : List Sign). AllByRecursion (λ s. has_sign ss s ≡ true) (signs p ++ signs q)) (sym made.once) (all_there [] (signs p ++ signs q))

  pub table_made : IsTable later table
  table_made = record {
    before = between;
    made = later;
    first = made.first;
    once = subst AreOnce (sym made.once) (all_once [] (signs p ++ signs q) tt);
    known =
        subst (AllByRecursion (SignNames Before)) (sym made.once)
        (all_keep (SignNames Before) [] (signs p ++ signs q) tt (all_both (SignNames Before) (signs p) (signs q) (signs_named Before p p_before) (signs_named Before q q_before)));
    named = made.named;
    grows = Grows-none later;
  }

  wide : table.first + length table.signs ≤ length later
  wide =
      let size = ap length made.named.texts ∙ length-append between (map (λ (r : Row). r.0) made.named.rows) in
      let many = as_many made.named.rows in
      let marks : length (map (λ (r : Row). r.1) made.named.rows) ≡ length table.signs = ap length made.named.signs_are in
      omega (arith, size, many, marks, made.first)

  p_there : AllByRecursion There (signs p)
  p_there = all_first There (signs p) (signs q) all_in

  q_there : AllByRecursion There (signs q)
  q_there = all_second There (signs p) (signs q) all_in

  pub first_known : AreKnown later (numbered table p)
  first_known = tree_known table (length later) wide p p_before p_there

  pub last_known : AreKnown later (numbered table q)
  last_known = tree_known table (length later) wide q q_before q_there

  -- the steps of the tree of the pattern are those of the pattern
  pub steps_are : HasNoTwice later → (xs : List CertStep) → (xs ≡ [] → ⊥) → (start : SequenceOf ℕ) (stuck : Option ℕ) → start ≡ only (numbered table p) → IsStuck later table xs start (numbered table q) stuck
      → stuck ≡ stuck_at xs (map_pattern (name_at names) p) (map_pattern (name_at names) q)
  steps_are distinct xs some start stuck e s =
      s (numbered table p) e first_known last_known
      ∙ (λ i. stuck_from 1 xs
      ((marked_at later distinct table table_made q q_before q_there ∙ ap marked_tree (same_pattern whole q qk)) i)
      ((marked_at later distinct table table_made p p_before p_there ∙ ap marked_tree (same_pattern whole p pk)) i))
      ∙ some_steps xs (map_pattern (name_at names) p) (map_pattern (name_at names) q) some
