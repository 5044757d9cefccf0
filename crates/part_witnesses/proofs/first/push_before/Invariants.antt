use Rattle.std.proofs.Common.{◌≡◌, ◌++◌, drop, map}
use Rattle.class_table.specs.View.{number_image}
use Rattle.commands.specs.Views.{asked_by}
use Rattle.refusal_witnesses.specs.PartWitnesses.{before_it}
use Rattle.refusal_witnesses.specs.Witnesses.{a_node}
use Rattle.witness_lists.specs.declared.witness.Owner.TheVariants as owner
use Rattle.witness_lists.specs.Views.{owner_of, shown}
use Rattle.part_witnesses.specs.Held.{held_as}
use Rattle.part_witnesses.proofs.first.push_before.Given as goal

abbrev pub invariant-loop-step : goal.invariant-loop-step
invariant-loop-step l =
    shown l.image l.found.items
    ++ map (a_node (owner_of l.image (owner.Method l.method.slot))) (before_it (asked_by l.image.names) (number_image l.image) (held_as l.image.classes l.method) l.path l.at l.node (drop l.step-index l.steps))
    ≡ shown l.image l.initial.found.items
    ++ map (a_node (owner_of l.image (owner.Method l.method.slot))) (before_it (asked_by l.image.names) (number_image l.image) (held_as l.image.classes l.method) l.path l.initial.at l.initial.node l.steps)
