use Rattle.std.proofs.Common.{◌++◌, ◌∙◌, sym, ap, arith}
use Rattle.change_file.proofs.DoItTexts.{number_alone, numbers_from, numbers_differ, has_one, source_stays, source_replaced, sources_end}
use Rattle.change_file.proofs.differences.doit_differences.Goals as goal
use Rattle.change_file.proofs.differences.doit_differences.Goals.{in-Some+then-not-has_source+in_ok-push, in-Some+else-not-has_source, in_default}

pub loop-number-preserved : goal.loop-number-preserved
loop-number-preserved c =
    let olds = c.args.earlier.now.doits in
    let news = c.args.later.now.doits in
    let n = c.loop-number.number in
    elim c.match-doit_source.branch [
      | in-Some+then-not-has_source+in_ok-push w ↦
          source_replaced number_alone n olds news w.in-Some.source.now c.loop-number.found.items c.match-doit_source.found.items _ w.in-Some.ensures (sym w.has_source.ensures ∙ w.if-not-has_source.true) c.loop-number.invariant
          (ap (λ v. v.items) w.found-is ∙ w.in_ok-push.ensures.items)
      | in-Some+else-not-has_source w ↦
          source_stays number_alone n olds news w.in-Some.source.now c.match-doit_source.found.items _ w.in-Some.ensures (sym w.has_source.ensures ∙ w.if-not-has_source.false)
          (ap (λ v. v.items ++ numbers_from n olds news) w.found-is ∙ c.loop-number.invariant)
      | in_default w ↦ absurd (has_one news n (omega (arith, c.loop-number-test.true, c.doits-number-end.ensures)) w.in_default.ensures)
    ]

pub returns : goal.returns
returns c =
    sources_end number_alone c.loop-number.number c.args.earlier.now.doits c.args.later.now.doits c.loop-number.found.items _ (omega (arith, c.loop-number-test.false, c.doits-number-end.ensures)) c.loop-number.invariant
    ∙ numbers_differ c.args.earlier.now c.args.later.now
