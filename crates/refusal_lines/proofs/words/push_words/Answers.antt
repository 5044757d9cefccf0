use Rattle.std.proofs.Common.{◌∙◌}
use Rattle.refusal_lines.proofs.Begins.{begins_same, begins_more, begins_twice}
use Rattle.refusal_lines.proofs.words.push_words.Goals as goal

pub returns-in_err-push_slice-clause-begins : goal.returns-in_err-push_slice-clause-begins
returns-in_err-push_slice-clause-begins c = begins_twice (begins_more _ c.loop-word.invariant) (begins_same c.in_err-push_slice.ensures.err)

pub returns-in_err-push_slice-2-clause-begins : goal.returns-in_err-push_slice-2-clause-begins
returns-in_err-push_slice-2-clause-begins c = begins_twice (begins_more _ c.loop-word.invariant) (begins_more _ (c.in_err-push_slice-2.ensures.err ∙ c.in_ok-push_slice.ensures.ok))

pub returns-clause-begins : goal.returns-clause-begins
returns-clause-begins c = begins_more _ c.loop-word.invariant
