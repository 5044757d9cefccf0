use Rattle.std.proofs.Common.{◌≡◌, ℕ, ◌||◌, Bool, List, sym, ap, subst, ◌∙◌}
use Rattle.std.proofs.lemmas.List.{take_all}
use Rattle.image_strip.specs.Least.{IsPass, is_method_settled}
use Rattle.image_strip.proofs.Visits.{pass-next}
use Rattle.image_strip.proofs.least.visit_all.Goals as goal
use Rattle.image_strip.proofs.least.visit_all.Goals.{then-changed, else-changed}

pub returns : goal.returns
returns g c =
    let s = c.args.image.now in
    subst (λ (ks : List ℕ). IsPass s (is_method_settled s) ks c.loop-slot.changed c.args.reach.now c.loop-slot.reach)
    (take_all c.loop-slot.slot-index c.methods-slot-items.result.now c.loop-slot-test.false ∙ c.methods-slot-items.ensures.value) c.loop-slot.invariant

pub loop-slot-preserved : goal.loop-slot-preserved
loop-slot-preserved g c =
    let s = c.args.image.now in
    let is : c.if-changed.changed ≡ (c.loop-slot.changed || c.in_ok-visited.visited) =
    elim c.if-changed.branch [
      | then-changed w ↦ w.changed-is ∙ w.if-changed.true ∙ sym (ap (λ (b : Bool). b || c.in_ok-visited.visited) w.if-changed.true)
      | else-changed w ↦ w.changed-is ∙ sym (ap (λ (b : Bool). b || c.in_ok-visited.visited) w.if-changed.false)
    ] in
    pass-next s (is_method_settled s) c.methods-slot-items.result.now c.loop-slot.slot-index c.slot-item.result c.loop-slot.changed c.in_ok-visited.visited c.if-changed.changed c.args.reach.now c.loop-slot.reach c.visit.new.reach
    c.loop-slot-test.true c.slot-item.is is c.loop-slot.invariant c.in_ok-visited.ensures
