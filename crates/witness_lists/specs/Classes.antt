-- Which classes are sought.
use Rattle.std.specs.Prelude.{ℕ, List, [], Bool, nat_eq}
use Rattle.std.specs.Option.{option_map_or}
use Rattle.image_model.specs.Image.{ClassOf}
use Rattle.rename_model.specs.NamesThere.{is_named_by_class}
use Rattle.command_model.specs.Hierarchy.{is_child}
use Rattle.class_table.specs.declared.record.ClassRec.{ClassRec}
use Rattle.class_table.specs.Slots.{Slots}
use Rattle.class_table.specs.View.{class_of, live_at}
use Rattle.refusal_witnesses.specs.Witnesses.{WitnessOf, AClass, where_true}
use Rattle.witness_lists.specs.declared.classes.ClassTest.{ClassTest}
use Rattle.witness_lists.specs.declared.classes.ClassTest.TheVariants as test

-- whether a class is sought
abbrev pub is_sought : ClassTest → ClassOf ℕ → Bool
is_sought (test.Named n) e = is_named_by_class nat_eq n e
is_sought (test.Child c) e = is_child nat_eq c e

-- the class in a slot, if the slot is live and the class passes a test
abbrev pub class_found : (ClassOf ℕ → Bool) → Slots → ℕ → List (WitnessOf ℕ)
class_found p s k = option_map_or (λ (c : ClassRec). where_true (p (class_of s.classes c)) (AClass c.name)) (live_at s.classes s.class_order k) []
