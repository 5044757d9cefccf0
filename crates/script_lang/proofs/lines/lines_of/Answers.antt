use Rattle.std.proofs.Common.{sym, ◌∙◌, ap}
use Rattle.script_lang.specs.Shown.{texts}
use Rattle.script_lang.proofs.Parts.{lines-more, lines-all}
use Rattle.script_lang.proofs.lines.lines_of.Goals.{then-not-is_empty+in_ok-push-2, else-not-is_empty}
use Rattle.script_lang.proofs.lines.lines_of.Goals as goal

pub returns : goal.returns
returns c =
    let cut = sym c.as_slice.ensures.value ∙ c.in-Some.ensures.cases.0 in
    elim c.if-not-is_empty.branch [
      | then-not-is_empty+in_ok-push-2 w ↦
          lines-more c.args.text.now c.in_ok-parts.parts.items c.in-Some.front.now c.in-Some.last.now c.loop-part.part-index c.loop-part.lines.items c.in_ok-parts.ensures cut c.loop-part-test.false c.loop-part.invariant c.if-not-is_empty.lines.items (ap (λ v. v.items) w.lines-is ∙ w.in_ok-push-2.ensures.items) (sym c.is_empty.ensures ∙ w.if-not-is_empty.true)
      | else-not-is_empty w ↦
          ap (λ v. texts v.items) w.lines-is ∙ lines-all c.args.text.now c.in_ok-parts.parts.items c.in-Some.front.now c.in-Some.last.now c.loop-part.part-index c.loop-part.lines.items c.in_ok-parts.ensures cut c.loop-part-test.false c.loop-part.invariant (sym c.is_empty.ensures ∙ w.if-not-is_empty.false)
    ]
