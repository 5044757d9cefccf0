-- The changes of code that were found so far.
use Rattle.std.proofs.Common.{◌≡◌, ℕ, ◌+◌, ◌<◌, List, [], ◌∷◌, ◌++◌, length, take, get_or, Option, is_some, append_assoc, sym, ap, ◌∙◌}
use Rattle.std.specs.Prelude.{if◌then◌else◌}
use Rattle.std.specs.List.{filter_map, cons_option}
use Rattle.std.proofs.lemmas.List.{take_more}
use Rattle.std.proofs.lemmas.List.Elements.{filter_map-append, filter-append}
use Rattle.class_table.specs.declared.record.Place.{Place}
use Rattle.class_table.specs.Slots.{Slots}
use Rattle.change_set.specs.declared.change.Change.{Change}
use Rattle.commands.specs.declared.command.Renaming.{Renaming}
use Rattle.renamed_code.specs.ChangedCode.{change_at}
use Rattle.plan_laws.specs.Planned.{touched}
use Rattle.rename_plans.specs.Given.{renamed_by, new_name}

-- behind what there was stand the changes of these places, and the places
pub record SoFar (s : Slots) (command : Renaming) (places : List Place) (changes_before : List Change) (touched_before : List Place) (changes : List Change) (touched_now : List Place) : Type 0 where
  pub changes_are : changes ≡ changes_before ++ filter_map (change_at s (renamed_by command) (new_name command)) places
  pub touched_are : touched_now ≡ touched_before ++ touched s (renamed_by command) (new_name command) places

pub one_more : (s : Slots) (command : Renaming) (places : List Place) (i : ℕ) (p : Place) (changes_before : List Change) (touched_before : List Place) (changes : List Change) (touched_now : List Place) (change : Option Change) (changes_after : List Change) (touched_after : List Place)
    → i < length places → p ≡ get_or places i p → change ≡ change_at s (renamed_by command) (new_name command) p
    → changes_after ≡ changes ++ cons_option change [] → touched_after ≡ touched_now ++ (if is_some change then p ∷ [] else [])
    → SoFar s command (take i places) changes_before touched_before changes touched_now → SoFar s command (take (i + 1) places) changes_before touched_before changes_after touched_after
one_more s command places i p cb tb changes now change ca ta lt is given c t so = record {
  changes_are = c ∙ (λ j. so.changes_are j ++ cons_option (given j) []) ∙ append_assoc cb (filter_map (change_at s (renamed_by command) (new_name command)) (take i places)) (cons_option (change_at s (renamed_by command) (new_name command) p) [])
      ∙ ap (λ cs. cb ++ cs) (sym (ap (filter_map (change_at s (renamed_by command) (new_name command))) taken ∙ filter_map-append (change_at s (renamed_by command) (new_name command)) (take i places) (p ∷ [])));
  touched_are = t ∙ (λ j. so.touched_are j ++ (if is_some (given j) then p ∷ [] else [])) ∙ append_assoc tb (touched s (renamed_by command) (new_name command) (take i places)) (if is_some (change_at s (renamed_by command) (new_name command) p) then p ∷ [] else [])
      ∙ ap (λ ps. tb ++ ps) (sym (ap (touched s (renamed_by command) (new_name command)) taken ∙ filter-append (λ q. is_some (change_at s (renamed_by command) (new_name command) q)) (take i places) (p ∷ [])));
}
  where
    taken : take (i + 1) places ≡ take i places ++ p ∷ []
    taken = take_more places i p lt ∙ ap (λ (q : Place). take i places ++ q ∷ []) (sym is)
