-- A map says what new names do one after the other.
use Rattle.std.proofs.Common.{◌≡◌, ℕ, ◌<◌, List, [], ◌∷◌, length, map, cond, refl, sym, ap, ◌∙◌}
use Rattle.std.specs.Prelude.{Bool, true, false, ◌||◌, nat_eq}
use Rattle.std.specs.List.{AllByRecursion, list_any}
use Rattle.std.proofs.lemmas.Bool.{false≢true}
use Rattle.rb_base.specs.Names.{HasNoTwice, name_at, text_eq}
use Rattle.rb_base.proofs.NamesLemmas.{text_eq-name_at}
use Rattle.run_model.specs.Values.{Name}
use Rattle.run_model.specs.Renamings.{mapped, entries_for}
use Rattle.run_model.proofs.Finite.{by_cases, mapped-for}
use Rattle.run_model.proofs.RenamingLemmas.{text-same}
use Rattle.new_names.specs.NewNames.{IsKnownName, called_after, map_of, texts_of, text_after}
use Rattle.new_names.specs.declared.compose.NewName.{NewName}

module _ (names : List (List ℕ)) (once : HasNoTwice names) where
  -- what a known name becomes in one step, as a text and as a number
  one-step : (e : NewName) (n : ℕ) → IsKnownName names e → n < length names →
      cond (text_eq (name_at names n) (name_at names e.from)) (name_at names e.to) (name_at names n) ≡ name_at names (cond (nat_eq n e.from) e.to n)
  one-step e n known h = ap (λ b. cond b (name_at names e.to) (name_at names n)) (text_eq-name_at names once n e.from h known.from) ∙ by (nat_eq n e.from)
    where
      by : (b : Bool) → cond b (name_at names e.to) (name_at names n) ≡ name_at names (cond b e.to n)
      by true = refl
      by false = refl

  known-step : (e : NewName) (n : ℕ) (b : Bool) → IsKnownName names e → n < length names → cond b e.to n < length names
  known-step e n true known h = known.to
  known-step e n false known h = h

  -- all steps
  all-steps : (es : List NewName) (n : ℕ) → AllByRecursion (IsKnownName names) es → n < length names → text_after names es (name_at names n) ≡ name_at names (called_after es n)
  all-steps [] n known h = refl
  all-steps (e ∷ es) n known h =
      ap (text_after names es) (one-step e n known.0 h) ∙ all-steps es (cond (nat_eq n e.from) e.to n) known.1 (known-step e n (nat_eq n e.from) known.0 h)

  -- a text that is no name that is replaced stays
  abbrev froms : List NewName → List Name
  froms es = map (λ (e : NewName). name_at names e.from) es

  left : (es : List NewName) (t : Name) → list_any (text_eq t) (froms es) ≡ false → text_after names es t ≡ t
  left [] t absent = refl
  left (e ∷ es) t absent = by_cases (text_eq t (name_at names e.from))
      (λ is. absurd (false≢true (sym absent ∙ ap (λ b. b || list_any (text_eq t) (froms es)) is)))
      (λ not. ap (λ b. text_after names es (cond b (name_at names e.to) t)) not ∙ left es t (sym (ap (λ b. b || list_any (text_eq t) (froms es)) not) ∙ absent))

  -- the map as entries for the names that are replaced
  entries : (all es : List NewName) → AllByRecursion (IsKnownName names) all → AllByRecursion (IsKnownName names) es →
      texts_of names (map (λ (e : NewName). record { from = e.from; to = called_after all e.from }) es) ≡ entries_for (text_after names all) (froms es)
  entries all [] known part = refl
  entries all (e ∷ es) known part =
      ap (λ t. (name_at names e.from, t) ∷ texts_of names (map (λ (d : NewName). record { from = d.from; to = called_after all d.from }) es)) (sym (all-steps all e.from known part.0.from))
      ∙ ap (λ l. (name_at names e.from, text_after names all (name_at names e.from)) ∷ l) (entries all es known part.1)

  pub composed-texts : (es : List NewName) (t : Name) → AllByRecursion (IsKnownName names) es → mapped text_eq (texts_of names (map_of es)) t t ≡ text_after names es t
  composed-texts es t known =
      ap (λ l. mapped text_eq l t t) (entries es es known known)
      ∙ mapped-for text_eq (text_after names es) (froms es) t t (text-same t) (λ absent. left es t absent)
