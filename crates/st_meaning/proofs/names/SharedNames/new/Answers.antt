use Rattle.std.proofs.Common.{◌∙◌, ◌++◌, ◌∷◌, [], sym}
use Rattle.st_meaning.proofs.Taking.{take_next}
use Rattle.st_meaning.proofs.names.SharedNames.new.Goals as goal

pub loop-number-preserved : goal.loop-number-preserved
loop-number-preserved c =
    c.in_ok-push.ensures.items
    ∙ (λ i. c.loop-number.invariant i ++ c.in_ok-from_slice.ensures i ∷ [])
    ∙ sym (take_next c.args.names.now c.loop-number.number c.text_of-text.result.now c.text_of-text.ensures)
