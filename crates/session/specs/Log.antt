-- What is kept of an image that commands change: an index, and what leads back and forth.
use Rattle.std.specs.Prelude.{ℕ, ◌<◌, List, [], ◌∷◌, ◌++◌, length, reverse, take, drop}
use Rattle.std.specs.List.{AllByRecursion}
use Rattle.class_table.specs.declared.record.Place.{Place}
use Rattle.class_table.specs.Slots.{Slots}
use Rattle.change_set.specs.declared.change.Change.{Change}
use Rattle.change_set.specs.Changes.{all_applied, inverses, all_undone, inverses_undone}
use Rattle.wider_slots.specs.Closed.{IsClosed}
use Rattle.wider_slots.specs.Logs.{CanTakeBack, CanDoAgain}
use Rattle.class_table.specs.Valid.{IsOrderly}
use Rattle.command_numbers.specs.CommandNames.{CommandNames}
use Rattle.commands.specs.Views.{renaming_command}
use Rattle.reference_index.specs.Mentioned.{Mentioned, IsIndexOf, DiffersAtMost}
use Rattle.session.specs.declared.renames.Renames.{Renames}
use Rattle.session.specs.declared.renames.Renames.TheVariants as renames

-- a single command that was done: the changes by which it is undone, or done again once it is undone, and what it renames
pub record DoneCommand : Type 0 where
  pub changes : List Change
  pub renames : Renames

-- an action that was done: its commands in order, and the places of the code that they change
pub record Done : Type 0 where
  pub commands : List DoneCommand
  pub touched : List Place

-- an action with one more command at its end, and the places that it changes
abbrev pub with_command : Done → DoneCommand → List Place → Done
with_command d c places = record { commands = d.commands ++ c ∷ []; touched = d.touched ++ places }

-- the slots before these commands, the last of which is undone first, and the commands as they are kept then
abbrev pub taken_back : Slots → List DoneCommand → Slots
taken_back s [] = s
taken_back s (d ∷ ds) = all_undone (taken_back s ds) d.changes

abbrev pub left_back : Slots → List DoneCommand → List DoneCommand
left_back s [] = []
left_back s (d ∷ ds) = record d { changes = inverses_undone (taken_back s ds) d.changes } ∷ left_back s ds

-- the slots behind these commands, which were undone, and the commands as they are kept then
abbrev pub done_again : Slots → List DoneCommand → Slots
done_again s [] = s
done_again s (d ∷ ds) = done_again (all_applied s d.changes) ds

abbrev pub left_again : Slots → List DoneCommand → List DoneCommand
left_again s [] = []
left_again s (d ∷ ds) = record d { changes = inverses s d.changes } ∷ left_again (all_applied s d.changes) ds

-- the commands can be undone one after the other, or done again
abbrev pub CanGoBack : Slots → List DoneCommand → Type 0
CanGoBack s [] = Unit {0}
CanGoBack s (d ∷ ds) = CanGoBack s ds × CanTakeBack (taken_back s ds) d.changes

abbrev pub CanGoForth : Slots → List DoneCommand → Type 0
CanGoForth s [] = Unit {0}
CanGoForth s (d ∷ ds) = CanDoAgain s d.changes × CanGoForth (all_applied s d.changes) ds

-- the names that the code at each place mentions, but for the places that are to be looked at again; the actions that were done, and those that were undone, the nearest first
pub record Log : Type 0 where
  pub index : Mentioned
  pub stale : List Place
  pub back : List Done
  pub forth : List Done

-- the log of entries in the order in which they were done, of which so many are done and the others undone
abbrev pub log_at : Mentioned → List Place → List Done → ℕ → Log
log_at index stale entries done = record { index = index; stale = stale; back = reverse (take done entries); forth = drop done entries }

-- the actions can be undone one after the other, from these slots on
abbrev pub LeadsBack : Slots → List Done → Type 0
LeadsBack s [] = Unit {0}
LeadsBack s (e ∷ es) = CanGoBack s e.commands × DiffersAtMost s (taken_back s e.commands) e.touched × LeadsBack (taken_back s e.commands) es

-- those that were undone can be done again
abbrev pub LeadsForth : Slots → List Done → Type 0
LeadsForth s [] = Unit {0}
LeadsForth s (e ∷ es) = CanGoForth s e.commands × DiffersAtMost s (done_again s e.commands) e.touched × LeadsForth (done_again s e.commands) es

-- the index is that of the slots but for the code at these places: it is that of others, which differ there alone
pub record IsIndexBut (s : Slots) (index : Mentioned) (stale : List Place) : Type 0 where
  pub former : Slots
  pub index_of : IsIndexOf former index
  pub differs : DiffersAtMost former s stale

-- P holds of each name in what a command renames
abbrev pub RenamesNames : (ℕ → Type 0) → Renames → Type 0
RenamesNames P renames.Nothing = Unit {0}
RenamesNames P (renames.Renaming r) = CommandNames P (renaming_command r)
RenamesNames P (renames.Moved c x d) = P c × P x × P d
RenamesNames P (renames.Temporary m x y) = P m.class × P m.selector × P x × P y

-- each name in what these commands rename is one of the first so many, and the same of actions
abbrev pub CommandsKnown : ℕ → List DoneCommand → Type 0
CommandsKnown n ds = AllByRecursion (λ (d : DoneCommand). RenamesNames (λ k. k < n) d.renames) ds

abbrev pub EntriesKnown : ℕ → List Done → Type 0
EntriesKnown n es = AllByRecursion (λ (e : Done). CommandsKnown n e.commands) es

-- the log is one of these slots: they are orderly and closed, the index is theirs but for what is to be looked at again, what is kept leads back and forth, and what it renames has texts
pub record IsLogOf (s : Slots) (log : Log) : Type 0 where
  pub closed : IsClosed s
  pub orderly : IsOrderly s
  pub index : IsIndexBut s log.index log.stale
  pub back : LeadsBack s log.back
  pub forth : LeadsForth s log.forth
  pub back_known : EntriesKnown (length s.names) log.back
  pub forth_known : EntriesKnown (length s.names) log.forth
