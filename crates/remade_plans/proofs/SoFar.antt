-- The changes that were found so far.
use Rattle.std.proofs.Common.{◌≡◌, ℕ, ◌+◌, ◌<◌, List, [], ◌∷◌, ◌++◌, length, take, get_or, Option, None, Some, is_some, sym, ap, ◌∙◌}
use Rattle.std.specs.Prelude.{if◌then◌else◌}
use Rattle.std.specs.List.{cons_option}
use Rattle.std.proofs.lemmas.List.{take_more, append-nil}
use Rattle.std.proofs.lemmas.List.Elements.{filter_map-append, filter-append}
use Rattle.class_table.specs.declared.record.Place.{Place}
use Rattle.class_table.specs.Slots.{Slots}
use Rattle.change_set.specs.declared.change.Change.{Change}
use Rattle.remade_plans.specs.Remade.{Remaking, change_at, changes_at, touched}

-- these are the changes of the places, and the places that have one
pub record SoFar (s : Slots) (r : Remaking) (places : List Place) (changes : List Change) (now : List Place) : Type 0 where
  pub changes_are : changes ≡ changes_at s r places
  pub touched_are : now ≡ touched s r places

module _ (s : Slots) (r : Remaking) (places : List Place) (i : ℕ) (p : Place) (lt : i < length places) (is : p ≡ get_or places i p) (changes : List Change) (now : List Place) where
  taken : take (i + 1) places ≡ take i places ++ p ∷ []
  taken = take_more places i p lt ∙ ap (λ (q : Place). take i places ++ q ∷ []) (sym is)

  next : (found : Option Change) (changes_after : List Change) (now_after : List Place) → found ≡ change_at s r p
      → changes_after ≡ changes ++ cons_option found [] → now_after ≡ now ++ (if is_some found then p ∷ [] else [])
      → SoFar s r (take i places) changes now → SoFar s r (take (i + 1) places) changes_after now_after
  next found ca na given c t so = record {
    changes_are = c ∙ (λ j. so.changes_are j ++ cons_option (given j) []) ∙ sym (ap (changes_at s r) taken ∙ filter_map-append (change_at s r) (take i places) (p ∷ []));
    touched_are = t ∙ (λ j. so.touched_are j ++ (if is_some (given j) then p ∷ [] else [])) ∙ sym (ap (touched s r) taken ∙ filter-append (λ q. is_some (change_at s r q)) (take i places) (p ∷ []));
  }

  -- no change of one more place
  pub next-none : (changes_after : List Change) (now_after : List Place) → None ≡ change_at s r p → changes_after ≡ changes → now_after ≡ now → SoFar s r (take i places) changes now → SoFar s r (take (i + 1) places) changes_after now_after
  next-none ca na given c t so = next None ca na given (c ∙ sym (append-nil changes)) (t ∙ sym (append-nil now)) so

  -- one
  pub next-some : (c : Change) (changes_after : List Change) (now_after : List Place) → Some c ≡ change_at s r p → changes_after ≡ changes ++ c ∷ [] → now_after ≡ now ++ p ∷ []
      → SoFar s r (take i places) changes now → SoFar s r (take (i + 1) places) changes_after now_after
  next-some c ca na given pushed put so = next (Some c) ca na given pushed put so
