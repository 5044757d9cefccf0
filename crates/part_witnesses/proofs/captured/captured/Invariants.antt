use Rattle.std.proofs.Common.{◌≡◌, ◌++◌, take}
use Rattle.std.specs.List.{flat_map}
use Rattle.class_table.specs.View.{number_image}
use Rattle.commands.specs.Views.{asked_by}
use Rattle.inlined_code.specs.Sending.{send_of}
use Rattle.placed_nodes.specs.declared.placed.PlacedNode.{PlacedNode}
use Rattle.refusal_witnesses.specs.InlineWitnesses.{captured_at}
use Rattle.part_witnesses.specs.Held.{held_as}
use Rattle.witness_lists.specs.Views.{shown}
use Rattle.part_witnesses.proofs.captured.captured.Given as goal

abbrev pub invariant-loop-placed : goal.invariant-loop-placed
invariant-loop-placed l =
    shown l.image l.found.items ≡ shown l.image l.initial.found.items ++ flat_map (λ (p : PlacedNode). captured_at (asked_by l.image.names) (number_image l.image) (held_as l.image.classes l.sending.method.now) (send_of l.sending.call.sent) (held_as l.image.classes l.sending.target.now) (p.path, p.node.now)) (take l.placed-index l.placed-items)
