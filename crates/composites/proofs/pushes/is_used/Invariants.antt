use Rattle.std.proofs.Common.{◌≡◌, drop}
use Rattle.mentions.specs.Listing.{pointed}
use Rattle.composites.specs.Pushed.{is_used}
use Rattle.composites.proofs.pushes.is_used.Given as goal

abbrev pub invariant-loop-node : goal.invariant-loop-node
invariant-loop-node l = is_used l.name (pointed (drop l.node-index l.nodes)) ≡ is_used l.name (pointed l.nodes)
