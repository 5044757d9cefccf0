use Rattle.std.proofs.Common.{sym}
use Rattle.scope_model.specs.NameTests.{form_in}
use Rattle.part_questions.proofs.Ways.{round-here}
use Rattle.part_questions.proofs.places.closure_round.Goals as goal

pub returns-then-is_closure_from : goal.returns-then-is_closure_from
returns-then-is_closure_from c =
    round-here c.args.path.now c.loop-i.i c.loop-i-test.true (form_in c.args.names.now) c.loop-i.in_place c.loop-i.node.now c.args.from _ (sym c.if-is_closure_from.ensures) c.loop-i.invariant
