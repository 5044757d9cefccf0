-- Which class defines a variable, among slots and by texts.
use Rattle.std.specs.Prelude.{ℕ, List, map, length, Bool, true, false, if◌then◌else◌, codes, Option, Some, None, option_map, unwrap_or}
use Rattle.std.specs.List.{list_any}
use Rattle.std.specs.Option.{option_and_then, option_or}
use Rattle.rb_base.specs.Names.{text_eq, name_at}
use Rattle.image_model.specs.Upwards.{upwards, first_given}
use Rattle.image_model.specs.Means.{VariableKind, of_instance, of_class_side, of_class, MeaningOf, variable, a_class, transcript, undeclared}
use Rattle.class_table.specs.declared.record.ClassRec.{ClassRec}
use Rattle.class_table.specs.Slots.{Slots}
use Rattle.class_table.specs.View.{live_at}
use Rattle.class_table.specs.Finding.{on_chain_at}
use Rattle.st_program.specs.Slots.{class_slot}
use Rattle.st_program.specs.declared.meaning.Kind.{Kind}
use Rattle.st_program.specs.declared.meaning.Kind.TheVariants as kind

-- the kind of variables
abbrev pub kind_from : Kind → VariableKind
kind_from kind.Instance = of_instance
kind_from kind.ClassSide = of_class_side
kind_from kind.Shared = of_class

-- the variables of a kind that a class itself defines
abbrev pub defined : Kind → ClassRec → List ℕ
defined kind.Instance c = c.instance
defined kind.ClassSide c = c.class_side
defined kind.Shared c = c.shared

-- the name of the live class in a slot, if it defines the variable
abbrev pub defined_at : Slots → Kind → List ℕ → ℕ → Option (List ℕ)
defined_at s j t k =
    option_and_then (λ (c : ClassRec). if list_any (text_eq t) (map (name_at s.names) (defined j c)) then Some (name_at s.names c.name) else None) (live_at s.classes s.class_order k)

-- the slot of the class above a live class
abbrev pub next_above : Slots → ℕ → Option ℕ
next_above s k = on_chain_at s.classes s.class_order k 1

-- the name of the class that defines the variable, on the chain from a slot
abbrev pub definer_from : Slots → Kind → List ℕ → Option ℕ → Option (List ℕ)
definer_from s j t o = first_given (defined_at s j t) (upwards (next_above s) (length s.class_order) o)

-- the kind of the variables that only one side sees
abbrev pub side_of : Bool → Kind
side_of true = kind.ClassSide
side_of false = kind.Instance

-- what a name stands for behind all scopes, where the chain begins at a slot
abbrev pub means_from : Slots → Option ℕ → Bool → List ℕ → MeaningOf (List ℕ)
means_from s o meta t =
    unwrap_or
    (option_or (option_map (λ d. variable (kind_from (side_of meta)) d) (definer_from s (side_of meta) t o))
    (option_or (option_map (λ d. variable of_class d) (definer_from s kind.Shared t o))
    (option_or (option_map (λ (k : ℕ). a_class t) (class_slot s t))
    (if text_eq (codes "Transcript") t then Some transcript else None))))
    undeclared
