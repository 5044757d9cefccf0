use Rattle.std.proofs.Common.{◌≡◌, List, Some, slice_get}
use Rattle.grammar_model.specs.Terminal.{Text}
use Rattle.event_trees.specs.Stacks.{nothing, steps, all_names}
use Rattle.event_trees.specs.Held.{held, map_stacks}
use Rattle.event_trees.specs.Naming.{Grows, Adds, AllPass}
use Rattle.event_trees.proofs.sequences.statements.Given as goal

abbrev pub invariant-loop-event : goal.invariant-loop-event
invariant-loop-event l = record {
  built : (final : List Text) → Grows l.names final → map_stacks (slice_get final) (held l.stacks) ≡ steps (λ t. Some t) nothing l.yielded;
  adds : Adds l.initial.names l.names (AllPass (all_names l.yielded));
}
