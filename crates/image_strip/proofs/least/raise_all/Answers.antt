use Rattle.std.proofs.Common.{◌≡◌, ℕ, ◌||◌, Bool, List, sym, ap, subst, ◌∙◌}
use Rattle.std.proofs.lemmas.List.{take_all}
use Rattle.image_strip.specs.Least.{IsPass}
use Rattle.image_strip.specs.SlotsClosed.{class_closed}
use Rattle.image_strip.proofs.Visits.{pass-next}
use Rattle.image_strip.proofs.least.raise_all.Goals as goal
use Rattle.image_strip.proofs.least.raise_all.Goals.{then-changed, else-changed}

pub returns : goal.returns
returns c =
    let s = c.args.image.now in
    subst (λ (ks : List ℕ). IsPass s (class_closed s) ks c.loop-id.changed c.args.reach.now c.loop-id.reach)
    (take_all c.loop-id.id-index c.classes-id-items.result.now c.loop-id-test.false ∙ c.classes-id-items.ensures.value) c.loop-id.invariant

pub loop-id-preserved : goal.loop-id-preserved
loop-id-preserved c =
    let s = c.args.image.now in
    let is : c.if-changed.changed ≡ (c.loop-id.changed || c.in_ok-raised.raised) =
    elim c.if-changed.branch [
      | then-changed w ↦ w.changed-is ∙ w.if-changed.true ∙ sym (ap (λ (b : Bool). b || c.in_ok-raised.raised) w.if-changed.true)
      | else-changed w ↦ w.changed-is ∙ sym (ap (λ (b : Bool). b || c.in_ok-raised.raised) w.if-changed.false)
    ] in
    pass-next s (class_closed s) c.classes-id-items.result.now c.loop-id.id-index c.id-item.result c.loop-id.changed c.in_ok-raised.raised c.if-changed.changed c.args.reach.now c.loop-id.reach c.raise.new.reach
    c.loop-id-test.true c.id-item.is is c.loop-id.invariant c.in_ok-raised.ensures
