use Rattle.std.proofs.Common.{◌≡◌, ◌++◌, drop}
use Rattle.explained_scripts.specs.Lines.{round_texts}
use Rattle.explained_scripts.proofs.lines.told_round.Given as goal

abbrev pub invariant-loop-node : goal.invariant-loop-node
invariant-loop-node l = l.lines.items ++ round_texts l.title l.from l.to (drop l.node-index l.nodes) ≡ round_texts l.title l.from l.to l.nodes
