-- Names that a node declares, and names that mean another thing where a temporary is read than where it is assigned.
use Rattle.std.specs.Prelude.{ℕ, List, filter, map, not, nat_eq}
use Rattle.tree_model.specs.Nodes.{Placed}
use Rattle.image_model.specs.Image.{EntryOf}
use Rattle.image_model.specs.Means.{MeaningOf, means}
use Rattle.image_model.specs.Words.{number_words}
use Rattle.class_table.specs.Slots.{Slots}
use Rattle.class_table.specs.View.{number_image}
use Rattle.command_model.specs.SameMethods.{same_meaning}
use Rattle.rename_model.specs.NamesThere.{declared_by}
use Rattle.refusal_witnesses.specs.Witnesses.{OwnerOf, InMethod, WitnessOf, TwoMeanings, a_node, where_true}

-- a node of an owner for each time that it declares a name
abbrev pub declared_at : OwnerOf ℕ → ℕ → Placed ℕ → List (WitnessOf ℕ)
declared_at o x e = map (λ y. a_node o e.0) (filter (nat_eq x) (declared_by e.1))

module _ (s : Slots) (m : EntryOf ℕ) where
  -- what a name means at a place of the method
  abbrev pub meaning : List ℕ → ℕ → MeaningOf ℕ
  meaning path n = means (number_words s.names) (number_image s) m path n

  -- a name at a read, if it means another thing there than at the path of the assignment
  abbrev pub changed_name : (path read : List ℕ) → ℕ → List (WitnessOf ℕ)
  changed_name path read n =
      where_true (not (same_meaning nat_eq (meaning path n) (meaning read n))) (TwoMeanings (InMethod m) read n (meaning path n) (meaning read n))
