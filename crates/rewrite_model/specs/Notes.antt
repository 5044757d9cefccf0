-- Whether code is equal, its comments too.
use Rattle.std.specs.Prelude.{List, [], ◌∷◌, ◌++◌, Bool, ◌&&◌}
use Rattle.std.specs.List.{flat_map}
use Rattle.std.specs.Cmp.Lexicographic.{pointwise}
use Rattle.rb_base.specs.Names.{text_eq}
use Rattle.tree_model.specs.Tree.{Notes, TreeOf, block, StatementsOf, no_statements, more_statements, SequenceOf, MethodOf}
use Rattle.tree_model.specs.Nodes.{nodes}
use Rattle.same_trees.specs.SameTrees.{same_sequence, same_code}

-- the comments of each statement of a sequence, and those at its end
abbrev pub statement_notes : {N : Type 0} → StatementsOf N → Notes → List Notes
statement_notes no_statements e = e ∷ []
statement_notes (more_statements c t ss) e = c ∷ statement_notes ss e

-- those of a block
abbrev pub block_notes : {N : Type 0} → TreeOf N → List Notes
block_notes (block ps ts ss e) = statement_notes ss e
block_notes t = []

-- all comments of a sequence: its own, and those of the blocks in it
abbrev pub all_notes : {N : Type 0} → SequenceOf N → List Notes
all_notes b = statement_notes b.statements b.tail ++ flat_map (λ e. block_notes e.1) (nodes b)

-- whether two sequences have the same comments at the same places, where their code is equal
abbrev pub same_notes : {N : Type 0} → SequenceOf N → SequenceOf N → Bool
same_notes a b = pointwise (pointwise text_eq) (all_notes a) (all_notes b)

-- whether two do-its are equal, their comments too
abbrev pub equal_sequence : {N : Type 0} → (N → N → Bool) → SequenceOf N → SequenceOf N → Bool
equal_sequence same a b = same_sequence same a b && same_notes a b

-- whether two methods are
abbrev pub equal_method : {N : Type 0} → (N → N → Bool) → MethodOf N → MethodOf N → Bool
equal_method same m n = same_code same m n && (pointwise text_eq m.head n.head && same_notes m.body n.body)
