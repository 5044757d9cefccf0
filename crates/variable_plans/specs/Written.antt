-- The changes by which classes in their slots get other records.
use Rattle.std.specs.Prelude.{ℕ, List, Option, option_map}
use Rattle.std.specs.List.{filter_map}
use Rattle.class_table.specs.declared.record.ClassRec.{ClassRec}
use Rattle.change_set.specs.declared.change.Change.{Change}
use Rattle.change_set.specs.declared.change.Change.TheVariants as change

-- the change of the class in a slot, if another record is given for it
abbrev pub class_written : (ℕ → Option ClassRec) → ℕ → Option Change
class_written given k = option_map (change.Class k) (given k)

-- the changes of these slots
abbrev pub classes_written : (ℕ → Option ClassRec) → List ℕ → List Change
classes_written given ks = filter_map (class_written given) ks
