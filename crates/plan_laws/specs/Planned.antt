-- The changes of a renaming: one of the record of a class, and one of each place whose code speaks of what is renamed.
use Rattle.std.specs.Prelude.{◌≡◌, ◌<◌, ℕ, List, [], ◌∷◌, ◌++◌, length, map, filter, Contains, if◌then◌else◌, nat_eq, Option, None, Some, is_some, slice_get}
use Rattle.std.specs.List.{filter_map}
use Rattle.std.specs.Option.{option_and_then, option_map_or}
use Rattle.image_model.specs.Means.{VariableKind, of_instance, of_class_side, of_class}
use Rattle.class_table.specs.declared.record.ClassRec.{ClassRec}
use Rattle.class_table.specs.declared.record.Place.{Place}
use Rattle.class_table.specs.Slots.{Slots}
use Rattle.class_table.specs.Finding.{named_in}
use Rattle.class_table.specs.Valid.{IsOrderly}
use Rattle.class_table.specs.View.{number_image}
use Rattle.change_set.specs.declared.change.Change.{Change}
use Rattle.change_set.specs.declared.change.Change.TheVariants as change
use Rattle.command_model.specs.Commands.{CommandOf, RenameClass, RenameSelector}
use Rattle.command_model.specs.Judged.{first_false}
use Rattle.command_numbers.specs.CommandNames.{CommandNames}
use Rattle.commands.specs.Views.{asked_by, renames_variable}
use Rattle.reference_index.specs.Mentioned.{names_at}
use Rattle.renamed_code.specs.Anew.{RenamedOf, of_a_class, of_a_variable, of_a_selector, name_before}
use Rattle.renamed_code.specs.ChangedCode.{change_at}

-- the command by which something is renamed
abbrev pub renaming : RenamedOf ℕ → ℕ → CommandOf ℕ
renaming (of_a_class c) to = RenameClass c to
renaming (of_a_variable kind c x) to = renames_variable kind c x to
renaming (of_a_selector s) to = RenameSelector s to

-- the class whose record becomes another
abbrev pub class_renamed_in : RenamedOf ℕ → Option ℕ
class_renamed_in (of_a_class c) = Some c
class_renamed_in (of_a_variable kind c x) = Some c
class_renamed_in (of_a_selector s) = None

-- names with another one in place of one
abbrev pub in_place : ℕ → ℕ → ℕ → ℕ
in_place old new n = if nat_eq old n then new else n

-- a record with another name in place of the variable of a kind
abbrev pub with_variable : VariableKind → ℕ → ℕ → ClassRec → ClassRec
with_variable of_instance x y r = record r { instance = map (in_place x y) r.instance }
with_variable of_class_side x y r = record r { class_side = map (in_place x y) r.class_side }
with_variable of_class x y r = record r { shared = map (in_place x y) r.shared }

-- the record of that class after
abbrev pub class_rec_after : RenamedOf ℕ → ℕ → ClassRec → ClassRec
class_rec_after (of_a_class c) to r = record r { name = to }
class_rec_after (of_a_variable kind c x) to r = with_variable kind x to r
class_rec_after (of_a_selector s) to r = r

module _ (s : Slots) (what : RenamedOf ℕ) (to : ℕ) where
  -- the change of that record, if there is one
  abbrev pub class_changes : List Change
  class_changes =
      option_map_or (λ k. option_map_or (λ (r : ClassRec). change.Class k (class_rec_after what to r) ∷ []) (slice_get s.classes k) [])
      (option_and_then (named_in s.classes s.class_order) (class_renamed_in what)) []

  -- all changes, where these places are looked at
  abbrev pub planned : List Place → List Change
  planned places = class_changes ++ filter_map (change_at s what to) places

  -- the places whose code changes
  abbrev pub touched : List Place → List Place
  touched places = filter (λ p. is_some (change_at s what to p)) places

  -- the renaming may be done, and these places are all whose code mentions the name
  pub record MayBePlanned (places : List Place) : Type 0 where
    pub orderly : IsOrderly s
    pub known : CommandNames (λ n. n < length s.names) (renaming what to)
    pub holds : first_false (asked_by s.names) (number_image s) (renaming what to) ≡ None
    pub listed : (p : Place) → Contains (names_at s p) (name_before what) → Contains places p
