use Rattle.std.proofs.Common.{◌++◌, ◌∙◌, sym, ap, arith}
use Rattle.file_model.specs.Filing.{Text}
use Rattle.file_model.specs.Written.{paragraph}
use Rattle.change_file.proofs.DoItTexts.{replacement_text, replacements_from, replacements_written, has_one, source_stays, source_replaced, sources_end}
use Rattle.change_file.proofs.doit_edits.write_replacements.Goals as goal
use Rattle.change_file.proofs.doit_edits.write_replacements.Goals.{in-Some+then-not-has_source+in_ok-message+in_ok-write_paragraph, in-Some+else-not-has_source, in_default}

pub loop-number-preserved : goal.loop-number-preserved
loop-number-preserved c =
    let olds = c.args.old.now.doits in
    let news = c.args.new.now.doits in
    let n = c.loop-number.number in
    elim c.match-doit_source.branch [
      | in-Some+then-not-has_source+in_ok-message+in_ok-write_paragraph w ↦
          source_replaced replacement_text n olds news w.in-Some.source.now c.loop-number.out c.match-doit_source.out _ w.in-Some.ensures (sym w.has_source.ensures ∙ w.if-not-has_source.true) c.loop-number.invariant
          (w.out-is ∙ w.in_ok-write_paragraph.ensures ∙ ap (λ (t : Text). c.loop-number.out ++ paragraph t) (w.as_slice.ensures ∙ w.in_ok-message.ensures))
      | in-Some+else-not-has_source w ↦
          source_stays replacement_text n olds news w.in-Some.source.now c.match-doit_source.out _ w.in-Some.ensures (sym w.has_source.ensures ∙ w.if-not-has_source.false)
          (ap (λ (t : Text). t ++ replacements_from n olds news) w.out-is ∙ c.loop-number.invariant)
      | in_default w ↦ absurd (has_one news n (omega (arith, c.loop-number-test.true, c.doits-number-end.ensures)) w.in_default.ensures)
    ]

pub returns : goal.returns
returns c =
    sources_end replacement_text c.loop-number.number c.args.old.now.doits c.args.new.now.doits c.loop-number.out _ (omega (arith, c.loop-number-test.false, c.doits-number-end.ensures)) c.loop-number.invariant
    ∙ ap (λ t. c.args.out.now ++ t) (replacements_written c.args.old.now c.args.new.now)
