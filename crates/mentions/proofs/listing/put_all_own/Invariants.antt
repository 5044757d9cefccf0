use Rattle.std.proofs.Common.{◌≡◌, ◌++◌, drop}
use Rattle.std.specs.List.{flat_map}
use Rattle.mentions.specs.Mentions.{own_names}
use Rattle.mentions.specs.Listing.{pointed}
use Rattle.mentions.proofs.listing.put_all_own.Given as goal

abbrev pub invariant-loop-node : goal.invariant-loop-node
invariant-loop-node l =
    l.numbers.items ++ flat_map own_names (pointed (drop l.node-index l.nodes)) ≡ l.initial.numbers.items ++ flat_map own_names (pointed l.nodes)
