-- The free names of a part of a method or a do-it.
use Rattle.std.specs.Prelude.{ℕ, Bool, List, [], option_map, unwrap_or}
use Rattle.tree_model.specs.Tree.{SequenceOf}
use Rattle.tree_model.specs.Path.{part_in}
use Rattle.scope_model.specs.FreeNames.{free_names, free_names_of_run, run_of, statements_at}
use Rattle.st_tree.specs.declared.path.Part.{Part}
use Rattle.st_tree.specs.declared.path.Part.TheVariants.{Expression, Run}

-- of the node where the path leads, or of neighbouring statements of the sequence where the path leads
abbrev pub free_names_of_part : (ℕ → ℕ → Bool) → (ℕ → Bool) → SequenceOf ℕ → Part → List ℕ
free_names_of_part same is_pseudo b (Expression path) = unwrap_or (option_map (free_names same is_pseudo) (part_in b path)) []
free_names_of_part same is_pseudo b (Run path first count) = free_names_of_run same is_pseudo (run_of (statements_at b path) first count)
