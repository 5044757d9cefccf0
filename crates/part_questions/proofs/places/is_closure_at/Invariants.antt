use Rattle.std.proofs.Common.{◌≡◌, false, drop}
use Rattle.scope_model.specs.Control.{is_closure_at}
use Rattle.scope_model.specs.NameTests.{form_in}
use Rattle.part_questions.proofs.places.is_closure_at.Given as goal

abbrev pub invariant-loop-step : goal.invariant-loop-step
invariant-loop-step l = is_closure_at (form_in l.names) l.in_place l.node (drop l.step-index l.path) ≡ is_closure_at (form_in l.names) false l.initial.node l.path
