use Rattle.std.proofs.Common.{◌≡◌, map, take}
use Rattle.tree_model.specs.Tree.{var}
use Rattle.extracted_code.proofs.call.as_arguments.Given as goal

abbrev pub invariant-loop-name : goal.invariant-loop-name
invariant-loop-name l = l.nodes ≡ map (λ n. var n) (take l.name-index l.names)
