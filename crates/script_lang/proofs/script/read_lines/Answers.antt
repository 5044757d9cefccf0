use Rattle.std.proofs.Common.{◌+◌, take, sym, ap, subst, ◌∙◌}
use Rattle.std.proofs.lemmas.Result.{err_from_is_err_and}
use Rattle.event_trees.specs.Naming.{Grows}
use Rattle.event_trees.proofs.Known.{Grows-none, Grows-twice}
use Rattle.script_lang.specs.Shown.{texts}
use Rattle.script_lang.specs.Read.{HasRead}
use Rattle.script_lang.proofs.Reading.{wrong-at, read-at, skipped-at}
use Rattle.script_lang.proofs.script.read_lines.Goals.{then-not-is_skipped+in_ok-read_line, else-not-is_skipped}
use Rattle.script_lang.proofs.script.read_lines.Goals as goal

pub returns-in_err-read_line-clause-fault : goal.returns-in_err-read_line-clause-fault
returns-in_err-read_line-clause-fault c =
    let p = err_from_is_err_and c.from_residual.result c.from_residual.ensures.1 in
    rw (p.1, p.2) (λ n cause e text same.
    let h = c.in_err-read_line.ensures.fault n cause e in
    wrong-at c.args.lines.now c.loop-line.line-index _ c.loop-line.invariant.read c.loop-line-test.true text n cause same (h.0 ∙ ap (λ k. k + 1) c.loop-line.invariant.counted) (sym c.is_skipped.ensures ∙ c.if-not-is_skipped.true) h.1)

pub loop-line-preserved : goal.loop-line-preserved
loop-line-preserved c = record {
  read =
      elim c.if-not-is_skipped.branch [
        | then-not-is_skipped+in_ok-read_line w ↦
            subst (λ ns. HasRead ns c.if-not-is_skipped.requests.items (texts (take (c.loop-line.line-index + 1) c.args.lines.now))) (sym w.names-is)
            (subst (λ v. HasRead w.read_line.new.names v.items (texts (take (c.loop-line.line-index + 1) c.args.lines.now))) (sym w.requests-is)
            (read-at c.args.lines.now c.loop-line.line-index _ c.loop-line.invariant.read c.loop-line-test.true w.read_line.new.names w.in_ok-read_line.ensures.grows (sym c.is_skipped.ensures ∙ w.if-not-is_skipped.true) _ w.in_ok-read_line.ensures.ok))
        | else-not-is_skipped w ↦
            skipped-at c.args.lines.now c.loop-line.line-index _ c.loop-line.invariant.read c.loop-line-test.true c.if-not-is_skipped.names (subst (Grows c.loop-line.names) (sym w.names-is) (Grows-none c.loop-line.names))
            (sym c.is_skipped.ensures ∙ w.if-not-is_skipped.false) c.if-not-is_skipped.requests.items (ap (λ v. v.items) w.requests-is)
      ];
  counted = ap (λ k. k + 1) c.loop-line.invariant.counted;
  grown =
      elim c.if-not-is_skipped.branch [
        | then-not-is_skipped+in_ok-read_line w ↦ subst (Grows c.args.names.now) (sym w.names-is) (Grows-twice c.loop-line.invariant.grown w.in_ok-read_line.ensures.grows)
        | else-not-is_skipped w ↦ subst (Grows c.args.names.now) (sym w.names-is) c.loop-line.invariant.grown
      ];
}
