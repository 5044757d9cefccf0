-- The names of a method that mean another thing in another class.
use Rattle.std.specs.Prelude.{ℕ, List, [], not, nat_eq}
use Rattle.std.specs.Option.{option_map_or}
use Rattle.tree_model.specs.Nodes.{Placed}
use Rattle.image_model.specs.Means.{MeaningOf}
use Rattle.image_model.specs.Uses.{name_used}
use Rattle.st_tree.specs.View.{method_of}
use Rattle.class_table.specs.Slots.{Slots}
use Rattle.command_model.specs.SameMethods.{same_meaning}
use Rattle.image_queries.specs.Asked.{meaning_in_tree}
use Rattle.refusal_witnesses.specs.Witnesses.{WitnessOf, TwoMeanings, where_true}
use Rattle.witness_lists.specs.declared.witness.Owner.TheVariants as owner
use Rattle.witness_lists.specs.Views.{owner_of}
use Rattle.method_witnesses.specs.declared.meanings.Moved.{Moved}

-- what a name means at a place of the method, and in the other class
abbrev pub here : Slots → Moved → List ℕ → ℕ → MeaningOf ℕ
here s m path n = meaning_in_tree s m.class m.meta (method_of m.tree.now) path n

abbrev pub there : Slots → Moved → List ℕ → ℕ → MeaningOf ℕ
there s m path n = meaning_in_tree s m.to m.meta (method_of m.tree.now) path n

-- the name with both, if these are not one
abbrev pub difference_of : Slots → Moved → List ℕ → ℕ → List (WitnessOf ℕ)
difference_of s m path n =
    where_true (not (same_meaning nat_eq (here s m path n) (there s m path n))) (TwoMeanings (owner_of s (owner.Method m.slot)) path n (here s m path n) (there s m path n))

-- the same of the name that a node uses
abbrev pub difference_at : Slots → Moved → Placed ℕ → List (WitnessOf ℕ)
difference_at s m e = option_map_or (difference_of s m e.0) (name_used e.1) []
