use Rattle.refusal_lines.proofs.Begins.{begins_same, begins_more, begins_either, begins_twice}
use Rattle.refusal_lines.proofs.lines.push_refusal.Goals as goal

pub returns-in_err-push_slice-clause-begins : goal.returns-in_err-push_slice-clause-begins
returns-in_err-push_slice-clause-begins c = begins_same c.in_err-push_slice.ensures.err

pub returns-in_err-push_number-clause-begins : goal.returns-in_err-push_number-clause-begins
returns-in_err-push_number-clause-begins c = begins_twice (begins_more _ c.in_ok-push_slice.ensures.ok) c.push_number.ensures.begins

pub returns-in_err-push_condition-clause-begins : goal.returns-in_err-push_condition-clause-begins
returns-in_err-push_condition-clause-begins c = begins_twice (begins_more _ c.in_ok-push_slice.ensures.ok) (begins_twice c.push_number.ensures.begins c.push_condition.ensures.begins)

pub returns-clause-begins : goal.returns-clause-begins
returns-clause-begins c = begins_twice (begins_more _ c.in_ok-push_slice.ensures.ok) (begins_twice c.push_number.ensures.begins (begins_twice c.push_condition.ensures.begins (begins_either c.push_slice-2.result _ c.push_slice-2.ensures.ok c.push_slice-2.ensures.err)))
