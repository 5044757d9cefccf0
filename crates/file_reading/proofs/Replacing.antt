-- Whether a do-it is replaced.
use Rattle.std.proofs.Common.{◌≡◌, ℕ, ℤ, pos, negsuc, ◌≤◌, ◌-◌, Bool, true, false, cond, not, length, Option, Some, None, Result, Ok, Err, refl, sym, ap, ◌∙◌, arith}
use Rattle.std.specs.Prelude.{IfNone, nat_le, ◌==◌, ◌||◌, slice_set}
use Rattle.std.specs.Option.{option_map_or, option_and_then}
use Rattle.std.proofs.lemmas.List.{length-map}
use Rattle.token_model.specs.declared.kind.Dialect.TheVariants.{Second}
use Rattle.run_model.specs.Numbers.{numeral_integer}
use Rattle.tree_model.specs.Tree.{SequenceOf}
use Rattle.image_model.specs.Image.{ImageOf, map_doit, map_image}
use Rattle.chunk_format.specs.Blank.{blank_len}
use Rattle.file_model.specs.Causes.{Cause, UnknownDefinition, first_cause}
use Rattle.file_model.specs.Forms.{Replacement, is_doit, form_of}
use Rattle.file_model.specs.Numerals.{digits_of, positive, place_in}
use Rattle.file_model.specs.Filing.{Text, Filing, ReplacementChunk, has_doit, goes_on, replacement_refusals, with_replaced, taken}
use Rattle.file_model.specs.Places.{opened_at}

-- the place that an integer states is 1 or more
positive-positive : (z : ℤ) (k : ℕ) → positive z ≡ Some k → 1 ≤ k
positive-positive (pos n) k e = by (nat_le 1 n) refl e
  where
    by : (b : Bool) → nat_le 1 n ≡ b → cond b (Some n) None ≡ Some k → 1 ≤ k
    by true le is = grind (arith, le, is)
    by false le is = absurd (cc)
positive-positive (negsuc n) k e = absurd (cc)

-- the place that a numeral states is 1 or more
pub place_in-positive : (t : Text) (k : ℕ) → place_in t ≡ Some k → 1 ≤ k
place_in-positive t k e = by (nat_le (length (digits_of t)) 9) (numeral_integer t) e
  where
    by : (b : Bool) (o : Option ℤ) → cond b (option_and_then positive o) None ≡ Some k → 1 ≤ k
    by true (Some z) is = positive-positive z k is
    by true None is = absurd (cc)
    by false o is = absurd (cc)

-- what holds in any case
pub where_none : {X : Type 0} {P : Type 0} (o : Option X) → P → IfNone o P
where_none None p = p
where_none (Some x) p = tt

-- as many do-its stand in an image over other names
pub has_no_doit : (f : ℕ → Text) (i : ImageOf ℕ) (numeral : Text) (count : ℕ) → count ≡ length i.doits → option_map_or (λ k. nat_le k count) (place_in numeral) false ≡ false → has_doit (map_image f i) numeral ≡ false
has_no_doit f i numeral count same none = ap (λ (n : ℕ). option_map_or (λ k. nat_le k n) (place_in numeral) false) (length-map i.doits (map_doit f) ∙ sym same) ∙ none

module _ (kernel : Bool) (i : ImageOf Text) (r : Replacement) (b : SequenceOf Text) where
  -- there is no such do-it
  pub no_number : has_doit i r.numeral ≡ false → first_cause (replacement_refusals Second kernel i r b) ≡ Some UnknownDefinition
  no_number e = ap (λ (x : Bool). cond (not x) (Some UnknownDefinition) (cond (length r.source == 0 || not (blank_len r.source == 0)) (Some UnknownDefinition) (cond (not (is_doit (form_of Second kernel b))) (Some UnknownDefinition) None))) e

  -- the source is none of a do-it as a chunk of its own
  pub no_doit : ((length r.source == 0 || not (blank_len r.source == 0)) || not (is_doit (form_of Second kernel b))) ≡ true → first_cause (replacement_refusals Second kernel i r b) ≡ Some UnknownDefinition
  no_doit e = by (has_doit i r.numeral) (length r.source == 0 || not (blank_len r.source == 0)) (is_doit (form_of Second kernel b)) e
    where
      by : (x y z : Bool) → (y || not z) ≡ true → cond (not x) (Some UnknownDefinition) (cond y (Some UnknownDefinition) (cond (not z) (Some UnknownDefinition) None)) ≡ Some UnknownDefinition
      by false y z h = refl
      by true true z h = refl
      by true false false h = refl
      by true false true h = absurd (cc)

  -- it is replaced
  pub accepted : has_doit i r.numeral ≡ true → ((length r.source == 0 || not (blank_len r.source == 0)) || not (is_doit (form_of Second kernel b))) ≡ false → first_cause (replacement_refusals Second kernel i r b) ≡ None
  accepted there e = by (has_doit i r.numeral) (length r.source == 0 || not (blank_len r.source == 0)) (is_doit (form_of Second kernel b)) there e
    where
      by : (x y z : Bool) → x ≡ true → (y || not z) ≡ false → cond (not x) (Some UnknownDefinition) (cond y (Some UnknownDefinition) (cond (not z) (Some UnknownDefinition) None)) ≡ None
      by false y z x h = absurd (cc)
      by true true z x h = absurd (cc)
      by true false false x h = absurd (cc)
      by true false true x h = refl

-- a do-it is replaced by one with the source that is stated
pub replaced : (kernel : Bool) (old : Filing) (r : Replacement) (b : SequenceOf Text) (k : ℕ) (source : Text) (last : Filing) → first_cause (replacement_refusals Second kernel old.image r b) ≡ None
    → place_in r.numeral ≡ Some k → source ≡ r.source
    → last ≡ goes_on (opened_at None old.places) None (record old.image { doits = slice_set old.image.doits (k - 1) (record { source = source; body = b }) })
    → ◌≡◌ {A = Result Filing Cause} (Ok last) (taken Second kernel old (ReplacementChunk r b))
replaced kernel old r b k source last accepted stated sourced is =
    ap Ok is
    ∙ (λ i. Ok (goes_on (opened_at None old.places) None (record old.image {
      doits = option_map_or (λ (n : ℕ). slice_set old.image.doits (n - 1) (record { source = sourced i; body = b })) (sym stated i) old.image.doits;
    })))
    ∙ ap (λ (o : Option Cause). option_map_or Err o (Ok (goes_on (opened_at None old.places) None (with_replaced old.image r.numeral (record { source = r.source; body = b }))))) (sym accepted)

-- it is not
pub not_replaced : (kernel : Bool) (old : Filing) (r : Replacement) (b : SequenceOf Text) → first_cause (replacement_refusals Second kernel old.image r b) ≡ Some UnknownDefinition
    → ◌≡◌ {A = Result Filing Cause} (Err UnknownDefinition) (taken Second kernel old (ReplacementChunk r b))
not_replaced kernel old r b refused =
    ap (λ (o : Option Cause). option_map_or Err o (Ok (goes_on (opened_at None old.places) None (with_replaced old.image r.numeral (record { source = r.source; body = b }))))) (sym refused)
