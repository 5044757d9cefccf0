use Rattle.std.proofs.Common.{ℕ, List, ◌++◌, ◌∙◌, ap, subst}
use Rattle.image_queries.specs.Parts.{AreTexts}
use Rattle.image_queries.proofs.Texts.{item_at, text_more, texts_end}
use Rattle.image_search.specs.Parts.{IsSlotText}
use Rattle.image_search.proofs.lines.method_lines.Goals as goal

pub loop-slot-preserved : goal.loop-slot-preserved
loop-slot-preserved g c =
    let items = c.methods-slot-items.result.now in
    text_more (λ (place slot : ℕ) (lines : List ℕ). IsSlotText c.args.image.now c.args.pattern.now slot lines) items c.loop-slot.slot-index c.loop-slot.text c.loop-slot.invariant
    c.slot-item.result c.in_ok-lines.lines c.push_slice.new.self (item_at items c.loop-slot.slot-index c.slot-item.result c.loop-slot-test.true c.slot-item.is)
    c.in_ok-lines.ensures (c.in_ok-push_slice.ensures.ok ∙ ap (λ (t : List ℕ). c.loop-slot.text ++ t) c.as_slice.ensures)

pub returns : goal.returns
returns g c =
    let items = c.methods-slot-items.result.now in
    subst (λ (order : List ℕ). AreTexts (λ (place slot : ℕ) (lines : List ℕ). IsSlotText c.args.image.now c.args.pattern.now slot lines) 0 order c.loop-slot.text) c.methods-slot-items.ensures.value
    (texts_end (λ (place slot : ℕ) (lines : List ℕ). IsSlotText c.args.image.now c.args.pattern.now slot lines) items c.loop-slot.slot-index c.loop-slot.text c.loop-slot.invariant c.loop-slot-test.false)
