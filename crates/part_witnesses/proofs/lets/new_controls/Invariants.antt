use Rattle.std.proofs.Common.{◌≡◌, ◌++◌, take}
use Rattle.std.specs.List.{flat_map}
use Rattle.std.specs.Prelude.{ℕ, List}
use Rattle.command_model.specs.InlineConditions.{makes_control}
use Rattle.scope_model.specs.NameTests.{form_in}
use Rattle.st_tree.specs.View.{method_of}
use Rattle.refusal_witnesses.specs.InlineWitnesses.{above}
use Rattle.refusal_witnesses.specs.Witnesses.{a_node, where_true}
use Rattle.witness_lists.specs.declared.witness.Owner.TheVariants as owner
use Rattle.witness_lists.specs.Views.{owner_of, shown}
use Rattle.part_witnesses.proofs.lets.new_controls.Given as goal

abbrev pub invariant-loop-read : goal.invariant-loop-read
invariant-loop-read l =
    shown l.image l.found.items ≡ shown l.image l.initial.found.items ++ flat_map (λ (r : List ℕ). where_true (makes_control (form_in l.image.names) (method_of l.method.tree.now) r l.assignment.value.now) (a_node (owner_of l.image (owner.Method l.method.slot)) (above r))) (take l.read-index l.read-items)
