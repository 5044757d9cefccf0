use Rattle.image_draft.proofs.Notes.{noted_more}
use Rattle.image_draft.proofs.owners.VariableOwners.note_all.Goals as goal

pub loop-variable-preserved : goal.loop-variable-preserved
loop-variable-preserved c = (
  noted_more c.loop-variable.self c.note.new.self c.in_ok-note.ensures.kept c.args.class c.args.variables.now c.loop-variable.variable-index c.variable-item.result c.loop-variable-test.true c.variable-item.is c.loop-variable.invariant.0
      c.in_ok-note.ensures.noted,
  (λ n m h. c.in_ok-note.ensures.kept n m (c.loop-variable.invariant.1 n m h)),
)
