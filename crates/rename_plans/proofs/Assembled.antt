-- A plan from the law of the changes of a renaming.
use Rattle.std.proofs.Common.{◌≡◌, ℕ, ◌<◌, List, length, None, refl, sym, ap, subst, ◌∙◌, [], ◌++◌}
use Rattle.std.specs.List.{filter_map, AllByRecursion}
use Rattle.class_table.specs.declared.record.Place.{Place}
use Rattle.class_table.specs.Slots.{Slots}
use Rattle.class_table.specs.Valid.{IsOrderly}
use Rattle.class_table.specs.View.{number_image}
use Rattle.command_model.specs.Commands.{CommandOf}
use Rattle.command_model.specs.Judged.{first_false}
use Rattle.command_numbers.specs.CommandNames.{CommandNames}
use Rattle.commands.specs.Views.{asked_by, renaming_command}
use Rattle.commands.specs.declared.command.Renaming.{Renaming}
use Rattle.commands.specs.declared.command.Renaming.TheVariants as renames
use Rattle.name_meanings.specs.declared.meaning.VariableKind.{VariableKind}
use Rattle.name_meanings.specs.declared.meaning.VariableKind.TheVariants as kind
use Rattle.rename_plans.specs.Given.{renamed_by, new_name}
use Rattle.reference_index.specs.Mentioned.{Mentioned, IsIndexOf, ListsPlaces, DiffersAtMost}
use Rattle.renamed_code.specs.Anew.{RenamedOf, name_before}
use Rattle.change_set.specs.declared.change.Change.{Change}
use Rattle.change_set.specs.Changes.{all_applied, CanApplyAll}
use Rattle.wider_slots.specs.Closed.{FitsIn}
use Rattle.command_model.specs.Effects.{effect}
use Rattle.command_model.specs.Numbers.{number_writing}
use Rattle.renamed_code.specs.ChangedCode.{change_at}
use Rattle.plan_laws.specs.Planned.{class_changes, renaming, planned, touched, MayBePlanned}
use Rattle.plans.specs.Plan.{IsPlan}

pub may_be : (s : Slots) (x : Mentioned) (what : RenamedOf ℕ) (to : ℕ) (command : CommandOf ℕ) (places : List Place) → renaming what to ≡ command → IsOrderly s → IsIndexOf s x
    → CommandNames (λ n. n < length s.names) command → first_false (asked_by s.names) (number_image s) command ≡ None → ListsPlaces x (name_before what) places → MayBePlanned s what to places
may_be s x what to command places is o index known holds lists = record {
  orderly = o;
  known = subst (λ (c : CommandOf ℕ). CommandNames (λ n. n < length s.names) c) (sym is) known;
  holds = ap (λ (c : CommandOf ℕ). first_false (asked_by s.names) (number_image s) c) is ∙ holds;
  listed = λ p h. (lists.members p).1 (((index p).members (name_before what)).1 h);
}

-- the command is the renaming
pub one_command : (command : Renaming) → renaming (renamed_by command) (new_name command) ≡ renaming_command command
one_command (renames.Class c to) = refl
one_command (renames.Variable kind c x to) = refl
one_command (renames.Selector s to) = refl

-- the new name is known
pub new_known : (names : ℕ) (command : Renaming) → CommandNames (λ n. n < names) (renaming_command command) → new_name command < names
new_known names (renames.Class c to) h = h.1
new_known names (renames.Variable k c x to) h = by k h
  where
    by : (j : VariableKind) → CommandNames (λ n. n < names) (renaming_command (renames.Variable j c x to)) → to < names
    by kind.Instance g = g.2
    by kind.ClassSide g = g.2
    by kind.Shared g = g.2
new_known names (renames.Selector s to) h = h.1

-- the changes that were found first and behind them
pub planned_same : (s : Slots) (command : Renaming) (places : List Place) (none first changes : List Change)
    → none ≡ [] → first ≡ none ++ class_changes s (renamed_by command) (new_name command)
    → changes ≡ first ++ filter_map (change_at s (renamed_by command) (new_name command)) places → changes ≡ planned s (renamed_by command) (new_name command) places
planned_same s command places none first changes e f g =
    g ∙ ap (λ (cs : List Change). cs ++ filter_map (change_at s (renamed_by command) (new_name command)) places) (f ∙ ap (λ (cs : List Change). cs ++ class_changes s (renamed_by command) (new_name command)) e)

-- the places that were found
pub touched_same : (s : Slots) (command : Renaming) (places none now : List Place) → none ≡ [] → now ≡ none ++ touched s (renamed_by command) (new_name command) places → now ≡ touched s (renamed_by command) (new_name command) places
touched_same s command places none now e f = f ∙ ap (λ (ps : List Place). ps ++ touched s (renamed_by command) (new_name command) places) e

-- the changes and the places are those of the law
pub is_plan : (s : Slots) (command : Renaming) (places : List Place) (changes : List Change) (now : List Place)
    → changes ≡ planned s (renamed_by command) (new_name command) places → now ≡ touched s (renamed_by command) (new_name command) places
    → CanApplyAll s (planned s (renamed_by command) (new_name command) places) → AllByRecursion (FitsIn s) (planned s (renamed_by command) (new_name command) places)
    → number_image (all_applied s (planned s (renamed_by command) (new_name command) places)) ≡ effect (asked_by s.names) (number_writing s.names) (renaming (renamed_by command) (new_name command)) (number_image s)
    → (all_applied s (planned s (renamed_by command) (new_name command) places)).names ≡ s.names → IsOrderly (all_applied s (planned s (renamed_by command) (new_name command) places))
    → DiffersAtMost s (all_applied s (planned s (renamed_by command) (new_name command) places)) (touched s (renamed_by command) (new_name command) places)
    → IsPlan s (renaming_command command) changes now
is_plan s command places changes now same there can fit is names orderly differs = record {
  can = subst (CanApplyAll s) (sym same) can;
  fit = subst (AllByRecursion (FitsIn s)) (sym same) fit;
  effect = ap (λ (cs : List Change). number_image (all_applied s cs)) same ∙ is ∙ ap (λ (c : CommandOf ℕ). effect (asked_by s.names) (number_writing s.names) c (number_image s)) (one_command command);
  names = ap (λ (cs : List Change). (all_applied s cs).names) same ∙ names;
  orderly = subst (λ (cs : List Change). IsOrderly (all_applied s cs)) (sym same) orderly;
  touched = subst (λ (cs : List Change). DiffersAtMost s (all_applied s cs) now) (sym same) (subst (DiffersAtMost s (all_applied s (planned s (renamed_by command) (new_name command) places))) (sym there) differs);
}
