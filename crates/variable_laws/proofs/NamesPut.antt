-- Lists of names in which a name is put last, or from which it is left out.
use Rattle.std.proofs.Common.{◌≡◌, List, [], ◌∷◌, ◌++◌, refl, sym, ap, ◌∙◌}
use Rattle.std.specs.Prelude.{Bool, true, false, cond, not, ◌||◌, filter}
use Rattle.std.specs.List.{list_any}
use Rattle.std.proofs.lemmas.List.Folds.{list_any-append}
use Rattle.rb_base.specs.Names.{text_eq}
use Rattle.rb_base.proofs.NamesLemmas.{text_eq-refl}
use Rattle.run_model.specs.Values.{Name}
use Rattle.run_model.proofs.Finite.{by_cases}
use Rattle.run_model.proofs.RenamingLemmas.{text-same}
use Rattle.rename_laws.proofs.TextsTold.{text-turned}

or-false : (a : Bool) → (a || (false || false)) ≡ a
or-false true = refl
or-false false = refl

pub or-true : (a b : Bool) → b ≡ true → (a || b) ≡ true
or-true true b e = refl
or-true false b e = e

module _ (x : Name) where
  -- the list with the name as its last
  abbrev pub put_last : List Name → List Name
  put_last ms = ms ++ x ∷ []

  -- the list without the name
  abbrev pub left_out : List Name → List Name
  left_out ms = filter (λ y. not (text_eq x y)) ms

  -- a change of lists that concerns no other name
  abbrev pub KeepsOthers : (List Name → List Name) → Type 0
  KeepsOthers h = (n : Name) → text_eq x n ≡ false → (ms : List Name) → list_any (text_eq n) (h ms) ≡ list_any (text_eq n) ms

  pub put-others : KeepsOthers put_last
  put-others n e ms = list_any-append (text_eq n) ms (x ∷ []) ∙ ap (λ b. list_any (text_eq n) ms || (b || false)) (text-turned n x ∙ e) ∙ or-false (list_any (text_eq n) ms)

  pub put-there : (ms : List Name) → list_any (text_eq x) (put_last ms) ≡ true
  put-there ms = list_any-append (text_eq x) ms (x ∷ []) ∙ or-true (list_any (text_eq x) ms) (text_eq x x || false) (ap (λ b. b || false) (text_eq-refl x))

  pub left-others : KeepsOthers left_out
  left-others n e [] = refl
  left-others n e (m ∷ ms) =
      by_cases (text_eq x m)
      (λ t.
      ap (λ b. list_any (text_eq n) (cond (not b) (m ∷ left_out ms) (left_out ms))) t
      ∙ left-others n e ms
      ∙ ap (λ b. b || list_any (text_eq n) ms) (sym (ap (text_eq n) (sym (text-same x m t)) ∙ text-turned n x ∙ e)))
      (λ t. ap (λ b. list_any (text_eq n) (cond (not b) (m ∷ left_out ms) (left_out ms))) t ∙ ap (λ b. text_eq n m || b) (left-others n e ms))

  pub left-gone : (ms : List Name) → list_any (text_eq x) (left_out ms) ≡ false
  left-gone [] = refl
  left-gone (m ∷ ms) =
      by_cases (text_eq x m) (λ t. ap (λ b. list_any (text_eq x) (cond (not b) (m ∷ left_out ms) (left_out ms))) t ∙ left-gone ms)
      (λ t. ap (λ b. list_any (text_eq x) (cond (not b) (m ∷ left_out ms) (left_out ms))) t ∙ (λ i. t i || left-gone ms i))
