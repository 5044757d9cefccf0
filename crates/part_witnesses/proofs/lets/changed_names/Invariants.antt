use Rattle.std.proofs.Common.{◌≡◌, ◌++◌, take}
use Rattle.std.specs.List.{flat_map}
use Rattle.class_table.specs.View.{number_image}
use Rattle.commands.specs.Views.{asked_by}
use Rattle.let_code.specs.Lets.{let_as}
use Rattle.refusal_witnesses.specs.TemporaryWitnesses.{changed_at}
use Rattle.part_witnesses.specs.Held.{held_as}
use Rattle.witness_lists.specs.Views.{shown}
use Rattle.part_witnesses.proofs.lets.changed_names.Given as goal

abbrev pub invariant-loop-read : goal.invariant-loop-read
invariant-loop-read l =
    shown l.image l.found.items ≡ shown l.image l.initial.found.items ++ flat_map (changed_at (asked_by l.image.names) (number_image l.image) (held_as l.image.classes l.method) l.fn.variable (let_as l.assignment)) (take l.read-index l.read-items)
