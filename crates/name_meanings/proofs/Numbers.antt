-- The number of a text in a table of names.
use Rattle.std.proofs.Common.{◌≡◌, ℕ, ◌<◌, ◌≤◌, Bool, true, false, cond, nat_lt, List, [], length, get_or, Some, None, refl, sym, ap, ◌∙◌, arith}
use Rattle.std.specs.Prelude.{nat_eq}
use Rattle.std.specs.List.{position_or_len}
use Rattle.std.proofs.lemmas.Bool.{ltb-false}
use Rattle.std.proofs.lemmas.Bool.Decides.{Decides-eqb}
use Rattle.std.proofs.lemmas.Slice.Eq.{slice_eq-Decides}
use Rattle.std.proofs.lemmas.List.Quantifiers.{position-Some}
use Rattle.std.proofs.lemmas.List.Sums.{fails_before_first}
use Rattle.std.proofs.lemmas.Option.{unwrap_or-slice_get}
use Rattle.rb_base.specs.Names.{text_eq, number_in, name_at, HasNoTwice}
use Rattle.rb_base.proofs.NamesLemmas.{text_eq-name_at}

module _ (names : List (List ℕ)) (t : List ℕ) (n : ℕ) (h : n < length names) where
  -- a text without a number is the text of no number
  pub without_number : number_in names t ≡ None → text_eq t (name_at names n) ≡ false
  without_number e = ap (text_eq t) (unwrap_or-slice_get names n []) ∙ fails_before_first (text_eq t) names n [] (past (nat_lt (position_or_len (text_eq t) names) (length names)) refl)
    where
      past : (b : Bool) → nat_lt (position_or_len (text_eq t) names) (length names) ≡ b → n < position_or_len (text_eq t) names
      past true q = let bad : Some (position_or_len (text_eq t) names) ≡ None = sym (ap (λ b. cond b (Some (position_or_len (text_eq t) names)) None) q) ∙ e in cc
      past false q = let end : length names ≤ position_or_len (text_eq t) names = ltb-false _ _ q in omega arith

  -- a text with a number is the text of that number alone
  pub with_number : HasNoTwice names → (i : ℕ) → number_in names t ≡ Some i → text_eq t (name_at names n) ≡ nat_eq i n
  with_number distinct i e =
      let at = position-Some (text_eq t) names i [] e in
      let same : t ≡ name_at names i = (slice_eq-Decides Decides-eqb t (get_or names i []) (text_eq t (get_or names i [])) refl).0 at.1 ∙ sym (unwrap_or-slice_get names i []) in
      ap (λ (u : List ℕ). text_eq u (name_at names n)) same ∙ text_eq-name_at names distinct i n at.0 h
