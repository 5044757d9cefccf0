-- What becomes of the nodes below a place.
use Rattle.std.specs.Prelude.{ℕ, List, ◌++◌}
use Rattle.tree_model.specs.Tree.{TreeOf, var, literal, send, cascade, assign, block, brace, return}
use Rattle.command_model.specs.Walk.{Making, onward, rebuilt, rebuilt_trees, rebuilt_messages, rebuilt_statements}

-- on from the node to which a path leads
abbrev pub below : {N : Type 0} → List ℕ → Making N → Making N
below path f rest t = f (path ++ rest) t

-- a node whose nodes below are made anew, and which is not itself
abbrev pub rebuilt_below : {N : Type 0} → Making N → TreeOf N → TreeOf N
rebuilt_below f (var n) = var n
rebuilt_below f (literal l) = literal l
rebuilt_below f (send r s args) = send (rebuilt (onward 0 f) r) s (rebuilt_trees f 1 args)
rebuilt_below f (cascade r ms) = cascade (rebuilt (onward 0 f) r) (rebuilt_messages f 1 ms)
rebuilt_below f (assign n t) = assign n (rebuilt (onward 0 f) t)
rebuilt_below f (block ps ts ss e) = block ps ts (rebuilt_statements f 0 ss) e
rebuilt_below f (brace ts) = brace (rebuilt_trees f 0 ts)
rebuilt_below f (return t) = return (rebuilt (onward 0 f) t)
