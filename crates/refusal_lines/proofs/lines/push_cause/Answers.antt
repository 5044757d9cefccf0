use Rattle.std.specs.Prelude.{◌++◌, codes}
use Rattle.std.specs.Fmt.{decimal}
use Rattle.std.proofs.lemmas.Result.{on_ok_weaker}
use Rattle.refusal_lines.proofs.Appended.{also_appended}
use Rattle.refusal_lines.proofs.Begins.{begins_same, begins_more, begins_either, begins_twice}
use Rattle.refusal_lines.proofs.lines.push_cause.Goals as goal

pub returns-clause-told : goal.returns-clause-told
returns-clause-told c =
    let head = codes "script line " in
    let numbered = head ++ decimal c.args.number in
    let blank = numbered ++ codes " " in
    let text = blank ++ c.args.cause.now in
    let to_number = also_appended _ _ _ head (decimal c.args.number) c.in_ok-push_slice.ensures.ok c.in_ok-push_number.ensures.told in
    let to_blank = also_appended _ _ _ numbered (codes " ") to_number c.in_ok-push_slice-2.ensures.ok in
    let to_cause = also_appended _ _ _ blank c.args.cause.now to_blank c.in_ok-push_slice-3.ensures.ok in
    on_ok_weaker _ (also_appended _ _ _ text (codes "\n") to_cause) c.push_slice-4.ensures.ok

pub returns-in_err-push_slice-clause-begins : goal.returns-in_err-push_slice-clause-begins
returns-in_err-push_slice-clause-begins c = begins_same c.in_err-push_slice.ensures.err

pub returns-in_err-push_number-clause-begins : goal.returns-in_err-push_number-clause-begins
returns-in_err-push_number-clause-begins c = begins_twice (begins_more _ c.in_ok-push_slice.ensures.ok) c.push_number.ensures.begins

pub returns-in_err-push_slice-2-clause-begins : goal.returns-in_err-push_slice-2-clause-begins
returns-in_err-push_slice-2-clause-begins c = begins_twice (begins_more _ c.in_ok-push_slice.ensures.ok) (begins_twice c.push_number.ensures.begins (begins_same c.in_err-push_slice-2.ensures.err))

pub returns-in_err-push_slice-3-clause-begins : goal.returns-in_err-push_slice-3-clause-begins
returns-in_err-push_slice-3-clause-begins c = begins_twice (begins_more _ c.in_ok-push_slice.ensures.ok) (begins_twice c.push_number.ensures.begins (begins_twice (begins_more _ c.in_ok-push_slice-2.ensures.ok) (begins_same c.in_err-push_slice-3.ensures.err)))

pub returns-clause-begins : goal.returns-clause-begins
returns-clause-begins c = begins_twice (begins_more _ c.in_ok-push_slice.ensures.ok) (begins_twice c.push_number.ensures.begins (begins_twice (begins_more _ c.in_ok-push_slice-2.ensures.ok) (begins_twice (begins_more _ c.in_ok-push_slice-3.ensures.ok) (begins_either c.push_slice-4.result _ c.push_slice-4.ensures.ok c.push_slice-4.ensures.err))))
