-- The line at a place among those that say something.
use Rattle.std.proofs.Common.{◌≡◌, ℕ, suc, ◌+◌, ◌<◌, ◌≤◌, Bool, true, false, not, cond, List, ◌∷◌, length, drop, get_or, Bor, Some, None, slice_get, sym, ap, ◌∙◌}
use Rattle.std.proofs.lemmas.List.{drop_more, at_drop_all}
use Rattle.script_model.specs.Lines.{is_skipped}
use Rattle.script_lang.specs.Shown.{texts}
use Rattle.explained_scripts.specs.Lines.{said_from}

module _ (ls : List (Bor (List ℕ))) (k : ℕ) (x : Bor (List ℕ)) (here : k < length ls) (is : x ≡ get_or ls k x) where
  -- the lines from there on
  from-here : (n : ℕ) → said_from n (texts (drop k ls)) ≡ cond (not (is_skipped x.now)) ((n, x.now) ∷ said_from (n + 1) (texts (drop (k + 1) ls))) (said_from (n + 1) (texts (drop (k + 1) ls)))
  from-here n = ap (λ xs. said_from n (texts xs)) (drop_more ls k x here ∙ ap (λ y. y ∷ drop (k + 1) ls) (sym is))

  -- a line that says nothing
  pub passed : is_skipped x.now ≡ true → (n left : ℕ) → slice_get (said_from n (texts (drop k ls))) left ≡ slice_get (said_from (n + 1) (texts (drop (k + 1) ls))) left
  passed skipped n left =
      ap (λ xs. slice_get xs left) (from-here n)
      ∙ ap (λ (b : Bool). slice_get (cond (not b) ((n, x.now) ∷ said_from (n + 1) (texts (drop (k + 1) ls))) (said_from (n + 1) (texts (drop (k + 1) ls)))) left) skipped

  -- the line itself
  pub reached : is_skipped x.now ≡ false → (n : ℕ) → slice_get (said_from n (texts (drop k ls))) 0 ≡ Some (n, x.now)
  reached says n =
      ap (λ xs. slice_get xs 0) (from-here n)
      ∙ ap (λ (b : Bool). slice_get (cond (not b) ((n, x.now) ∷ said_from (n + 1) (texts (drop (k + 1) ls))) (said_from (n + 1) (texts (drop (k + 1) ls)))) 0) says

  -- a line before it
  pub counted : is_skipped x.now ≡ false → (n left : ℕ) → slice_get (said_from n (texts (drop k ls))) (suc left) ≡ slice_get (said_from (n + 1) (texts (drop (k + 1) ls))) left
  counted says n left =
      ap (λ xs. slice_get xs (suc left)) (from-here n)
      ∙ ap (λ (b : Bool). slice_get (cond (not b) ((n, x.now) ∷ said_from (n + 1) (texts (drop (k + 1) ls))) (said_from (n + 1) (texts (drop (k + 1) ls)))) (suc left)) says

-- no line is left
pub none-left : (ls : List (Bor (List ℕ))) (k n left : ℕ) → length ls ≤ k → slice_get (said_from n (texts (drop k ls))) left ≡ None
none-left ls k n left over = at_drop_all (λ (xs : List (Bor (List ℕ))). slice_get (said_from n (texts xs)) left) ls k over
