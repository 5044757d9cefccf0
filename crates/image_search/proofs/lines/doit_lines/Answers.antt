use Rattle.std.proofs.Common.{ℕ, List, ◌++◌, ◌∙◌, ◌<◌, ◌≤◌, length, ap, arith}
use Rattle.class_table.specs.declared.record.DoIt.{DoIt}
use Rattle.class_table.proofs.Live.{there}
use Rattle.image_queries.proofs.Texts.{text_more, texts_end}
use Rattle.image_search.specs.Parts.{IsDoItText}
use Rattle.image_search.proofs.lines.doit_lines.Goals as goal

pub loop-number-preserved : goal.loop-number-preserved
loop-number-preserved g c =
    let items = c.args.image.now.doits in
    let within : c.loop-number.number < length items = omega (arith, c.loop-number-test.true, c.doits.ensures) in
    let held = there items c.loop-number.number within in
    text_more (λ (number : ℕ) (d : DoIt) (lines : List ℕ). IsDoItText c.args.image.now c.args.pattern.now number d lines) items c.loop-number.number c.loop-number.text c.loop-number.invariant
    held.0 c.in_ok-lines.lines c.push_slice.new.self held.1
    (c.in_ok-lines.ensures held.0 held.1) (c.in_ok-push_slice.ensures.ok ∙ ap (λ (t : List ℕ). c.loop-number.text ++ t) c.as_slice.ensures)

pub returns : goal.returns
returns g c =
    let items = c.args.image.now.doits in
    let over : length items ≤ c.loop-number.number = omega (arith, c.loop-number-test.false, c.doits.ensures) in
    texts_end (λ (number : ℕ) (d : DoIt) (lines : List ℕ). IsDoItText c.args.image.now c.args.pattern.now number d lines) items c.loop-number.number c.loop-number.text c.loop-number.invariant over
