-- Code in which names are declared.
use Rattle.std.specs.Prelude.{ℕ, List, Bool}
use Rattle.st_tree.specs.View.{method_of, sequence_of}
use Rattle.use_index.specs.declared.code.Code.{Code}
use Rattle.use_index.specs.declared.code.Code.TheVariants as code
use Rattle.use_index.specs.Uses.{is_bound, is_bound_in_doit}

-- whether the code declares what a name stands for at a path
abbrev pub bound_in : List (List ℕ) → Code → List ℕ → ℕ → Bool
bound_in names (code.Method m) path n = is_bound names (method_of m.now) path n
bound_in names (code.DoIt b) path n = is_bound_in_doit names (sequence_of b.now) path n
