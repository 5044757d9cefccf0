use Rattle.std.proofs.Common.{◌≡◌, ◌++◌, take}
use Rattle.std.specs.Prelude.{flat_map}
use Rattle.run_model.specs.Views.{event_text}
use Rattle.run_texts.proofs.runs.write_events.Given as goal

abbrev pub invariant-loop-event : goal.invariant-loop-event
invariant-loop-event l = l.out ≡ l.initial.out ++ flat_map event_text (take l.event-index l.events)
