use Rattle.std.proofs.Common.{◌≡◌, map, take}
use Rattle.st_tree.specs.View.{method_of}
use Rattle.let_code.specs.Uses.{as_placed, reads_among}
use Rattle.let_code.proofs.uses.reads_of.Given as goal

abbrev pub invariant-loop-placed : goal.invariant-loop-placed
invariant-loop-placed l = l.found.items ≡ reads_among l.names (method_of l.method) l.variable (map as_placed (take l.placed-index l.placed-items))
