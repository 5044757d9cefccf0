use Rattle.std.proofs.Common.{◌+◌, take, sym, ap, subst, ◌∙◌}
use Rattle.std.proofs.lemmas.Result.{err_from_is_err_and}
use Rattle.event_trees.specs.Naming.{Grows}
use Rattle.event_trees.proofs.Known.{Grows-none, Grows-twice}
use Rattle.script_lang.specs.Shown.{texts}
use Rattle.log_lang.proofs.Reading.{HasRead}
use Rattle.log_lang.proofs.Reading.{wrong-at, read-at, skipped-at}
use Rattle.log_lang.proofs.log.read_events.Goals.{then-not-is_skipped+in_ok-read_event, else-not-is_skipped}
use Rattle.log_lang.proofs.log.read_events.Goals as goal

pub returns-in_err-read_event-clause-fault : goal.returns-in_err-read_event-clause-fault
returns-in_err-read_event-clause-fault c =
    let p = err_from_is_err_and c.from_residual.result c.from_residual.ensures.1 in
    rw (p.1, p.2) (λ n cause e text same.
    let h = c.in_err-read_event.ensures.fault n cause e in
    wrong-at c.args.lines.now c.loop-line.line-index _ c.loop-line.invariant.read c.loop-line-test.true text n cause same (h.0 ∙ ap (λ k. k + 1) c.loop-line.invariant.counted) (sym c.is_skipped.ensures ∙ c.if-not-is_skipped.true) h.1)

pub loop-line-preserved : goal.loop-line-preserved
loop-line-preserved c = record {
  read =
      elim c.if-not-is_skipped.branch [
        | then-not-is_skipped+in_ok-read_event w ↦
            subst (λ ns. HasRead ns c.if-not-is_skipped.events.items (texts (take (c.loop-line.line-index + 1) c.args.lines.now))) (sym w.names-is)
            (subst (λ v. HasRead w.read_event.new.names v.items (texts (take (c.loop-line.line-index + 1) c.args.lines.now))) (sym w.events-is)
            (read-at c.args.lines.now c.loop-line.line-index _ c.loop-line.invariant.read c.loop-line-test.true w.read_event.new.names w.in_ok-read_event.ensures.grows (sym c.is_skipped.ensures ∙ w.if-not-is_skipped.true) _ w.in_ok-read_event.ensures.ok))
        | else-not-is_skipped w ↦
            skipped-at c.args.lines.now c.loop-line.line-index _ c.loop-line.invariant.read c.loop-line-test.true c.if-not-is_skipped.names (subst (Grows c.loop-line.names) (sym w.names-is) (Grows-none c.loop-line.names))
            (sym c.is_skipped.ensures ∙ w.if-not-is_skipped.false) c.if-not-is_skipped.events.items (ap (λ v. v.items) w.events-is)
      ];
  counted = ap (λ k. k + 1) c.loop-line.invariant.counted;
  grown =
      elim c.if-not-is_skipped.branch [
        | then-not-is_skipped+in_ok-read_event w ↦ subst (Grows c.args.names.now) (sym w.names-is) (Grows-twice c.loop-line.invariant.grown w.in_ok-read_event.ensures.grows)
        | else-not-is_skipped w ↦ subst (Grows c.args.names.now) (sym w.names-is) c.loop-line.invariant.grown
      ];
}
