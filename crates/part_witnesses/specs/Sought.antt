-- Which nodes of a method are sought.
use Rattle.std.specs.Prelude.{ℕ, Bool, false, ◌&&◌, nat_eq, nat_lt, length}
use Rattle.tree_model.specs.Tree.{assign}
use Rattle.tree_model.specs.Nodes.{Placed}
use Rattle.command_model.specs.Places.{is_return}
use Rattle.part_witnesses.specs.declared.sought.Sought.{Sought}
use Rattle.part_witnesses.specs.declared.sought.Sought.TheVariants as sought

-- whether a node is sought
abbrev pub is_sought : Sought → Placed ℕ → Bool
is_sought sought.BlockReturn e = is_return e.1 && nat_lt 1 (length e.0)
is_sought (sought.Assignment x) (path, assign n t) = nat_eq x n
is_sought (sought.Assignment x) (path, t) = false
