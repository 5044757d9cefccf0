use Rattle.std.proofs.Common.{◌≡◌, ◌+◌, false, drop}
use Rattle.scope_model.specs.NameTests.{form_in}
use Rattle.part_questions.specs.Round.{closure_round}
use Rattle.part_questions.proofs.places.closure_round.Given as goal

abbrev pub invariant-loop-i : goal.invariant-loop-i
invariant-loop-i l = closure_round (form_in l.names) l.from l.in_place (l.i + 1) l.node (drop l.i l.path) ≡ closure_round (form_in l.names) l.from false 1 l.initial.node l.path
