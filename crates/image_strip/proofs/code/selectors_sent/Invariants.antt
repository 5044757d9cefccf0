use Rattle.std.proofs.Common.{◌≡◌, ◌++◌, drop}
use Rattle.std.specs.List.{flat_map}
use Rattle.strip_model.specs.Reach.{node_sends}
use Rattle.mentions.specs.Listing.{pointed}
use Rattle.image_strip.proofs.code.selectors_sent.Given as goal

abbrev pub invariant-loop-node : goal.invariant-loop-node
invariant-loop-node l =
    l.selectors ++ flat_map node_sends (pointed (drop l.node-index l.node-items)) ≡ flat_map node_sends (pointed l.node-items)
