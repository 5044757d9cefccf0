use Rattle.refusal_lines.proofs.Begins.{begins_same, begins_more, begins_twice}
use Rattle.refusal_lines.proofs.words.push_counted.Goals as goal

pub returns-in_err-push_slice-clause-begins : goal.returns-in_err-push_slice-clause-begins
returns-in_err-push_slice-clause-begins c = begins_twice c.push_named.ensures.begins (begins_same c.in_err-push_slice.ensures.err)

pub returns-clause-begins : goal.returns-clause-begins
returns-clause-begins c = begins_twice c.push_named.ensures.begins (begins_twice (begins_more _ c.in_ok-push_slice.ensures.ok) c.push_number.ensures.begins)
