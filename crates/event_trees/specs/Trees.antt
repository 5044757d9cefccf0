-- Which tree the events of a sequence or method build.
use Rattle.std.specs.Prelude.{◌≡◌, List, ◌∷◌, ◌++◌, Some, slice_get}
use Rattle.tree_model.specs.Tree.{SequenceOf, MethodOf, map_sequence, map_method}
use Rattle.tree_model.specs.Normal.{normal}
use Rattle.grammar_model.specs.Terminal.{Text}
use Rattle.parse_events.specs.declared.event.SequenceEvents.{SequenceEvents}
use Rattle.parse_events.specs.declared.event.MethodEvents.{MethodEvents}
use Rattle.st_tree.specs.declared.tree.Sequence.{Sequence}
use Rattle.st_tree.specs.declared.tree.Method.{Method}
use Rattle.st_tree.specs.View.{sequence_of, method_of}
use Rattle.event_trees.specs.Stacks.{nothing, steps, statements_in, all_names, declared_by}
use Rattle.event_trees.specs.Naming.{Grows}

-- the sequence that events build, where g gives the names
abbrev pub sequence_in : {N : Type 0} → (Text → N) → SequenceEvents → SequenceOf N
sequence_in g found =
    record { temporaries = declared_by g found.temporaries; statements = statements_in (steps g nothing found.events).statements; tail = found.tail }

-- the method that events build, its comments in normal form, where g gives the names
abbrev pub method_in : {N : Type 0} → (Text → N) → MethodEvents → MethodOf N
method_in g found =
    normal (record { selector = g found.selector; arguments = declared_by g found.arguments; head = found.opening; primitive = found.primitive; body = sequence_in g found.body })

-- where the names of the numbers are these or begin with these, the sequence is that of the events
pub record SequenceIs (names : List Text) (found : SequenceEvents) (body : Sequence) : Type 0 where
  pub named : (final : List Text) → Grows names final → map_sequence (slice_get final) (sequence_of body) ≡ sequence_in (λ t. Some t) found

-- where the names of the numbers are these or begin with these, the method is that of the events
pub record MethodIs (names : List Text) (found : MethodEvents) (method : Method) : Type 0 where
  pub named : (final : List Text) → Grows names final → map_method (slice_get final) (method_of method) ≡ method_in (λ t. Some t) found

-- the names in what is found in a sequence
abbrev pub found_names : SequenceEvents → List Text
found_names found = declared_by (λ t. t) found.temporaries ++ all_names found.events

-- the names in what is found in a method
abbrev pub method_names : MethodEvents → List Text
method_names found = found.selector ∷ declared_by (λ t. t) found.arguments ++ found_names found.body
