use Rattle.std.proofs.Common.{◌≡◌, ◌++◌, drop}
use Rattle.std.specs.List.{flat_map}
use Rattle.mentions.specs.Listing.{pointed}
use Rattle.rewrite_model.specs.Notes.{block_notes}
use Rattle.image_rewriting.specs.Equal.{noted}
use Rattle.image_rewriting.proofs.equality.put_blocks.Given as goal

abbrev pub invariant-loop-node : goal.invariant-loop-node
invariant-loop-node l =
    noted l.found.items ++ flat_map block_notes (pointed (drop l.node-index l.nodes)) ≡ noted l.initial.found.items ++ flat_map block_notes (pointed l.nodes)
