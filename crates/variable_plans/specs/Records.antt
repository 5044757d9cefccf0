-- The records of the classes that a variable leaves, and of those to which it comes.
use Rattle.std.specs.Prelude.{ℕ, List, [], ◌∷◌, ◌++◌, filter, Bool, not, ◌&&◌, ◌||◌, nat_eq, if◌then◌else◌, Option, None, Some}
use Rattle.std.specs.List.{list_any}
use Rattle.std.specs.Option.{option_and_then, option_map_or}
use Rattle.image_model.specs.Means.{variables}
use Rattle.class_table.specs.declared.record.ClassRec.{ClassRec}
use Rattle.class_table.specs.Slots.{Slots}
use Rattle.class_table.specs.View.{class_of, live_at}
use Rattle.change_set.specs.declared.change.Change.{Change}
use Rattle.commands.specs.declared.command.VariableMove.{VariableMove}
use Rattle.name_meanings.specs.Meanings.{kind_of}
use Rattle.name_meanings.specs.declared.meaning.VariableKind.{VariableKind}
use Rattle.name_meanings.specs.declared.meaning.VariableKind.TheVariants as kind
use Rattle.variable_plans.specs.declared.route.Route.{Route}
use Rattle.variable_plans.specs.Routes.{is_among, name_above, route_of}
use Rattle.variable_plans.specs.Written.{classes_written}

-- the variables without one that leaves, and then with that one as the last where it comes
abbrev pub moved_names : (leaves enters : Bool) (x : ℕ) → List ℕ → List ℕ
moved_names leaves enters x names = filter (λ y. not (leaves && nat_eq x y)) names ++ (if enters then x ∷ [] else [])

-- a record in which the variables of a kind are these
abbrev pub with_moved : VariableKind → (leaves enters : Bool) (x : ℕ) → ClassRec → ClassRec
with_moved kind.Instance leaves enters x r = record r { instance = moved_names leaves enters x r.instance }
with_moved kind.ClassSide leaves enters x r = record r { class_side = moved_names leaves enters x r.class_side }
with_moved kind.Shared leaves enters x r = record r { shared = moved_names leaves enters x r.shared }

-- the record after the variable left it, or came to it
abbrev pub record_after : Route → (leaves enters : Bool) → ClassRec → ClassRec
record_after route leaves enters r = with_moved route.kind leaves enters route.variable r

-- that record, if the variable does one of these
abbrev pub changed_record : Route → (leaves enters : Bool) → ClassRec → Option ClassRec
changed_record route leaves enters r = if leaves || enters then Some (record_after route leaves enters r) else None

module _ (s : Slots) where
  -- whether the variable leaves a class: the class is one of those and defines it
  abbrev pub leaves_class : Route → ClassRec → Bool
  leaves_class route r = is_among route.leaves r.name (name_above s r) && list_any (nat_eq route.variable) (variables (kind_of route.kind) (class_of s.classes r))

  -- whether it comes to a class
  abbrev pub enters_class : Route → ClassRec → Bool
  enters_class route r = is_among route.enters r.name (name_above s r)

  -- the other record of the class in a slot, if the class is live and the variable leaves it or comes to it
  abbrev pub record_given : Route → ℕ → Option ClassRec
  record_given route k = option_and_then (λ (r : ClassRec). changed_record route (leaves_class route r) (enters_class route r) r) (live_at s.classes s.class_order k)

  -- all changes of the move
  abbrev pub planned : VariableMove → List Change
  planned m = option_map_or (λ route. classes_written (record_given route) s.class_order) (route_of s m) []
