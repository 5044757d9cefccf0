use Rattle.std.proofs.Common.{◌≤◌, ◌+◌, ℕ, Vec, Global, filter, take, sym, subst, ◌∙◌, arith}
use Rattle.image_strip.specs.Anew.{ArePlaces}
use Rattle.image_strip.specs.Stripped.{is_class_marked}
use Rattle.image_strip.proofs.Places.{count-more, count-same, places-turn, places-left}
use Rattle.image_strip.proofs.anew.class_places.Goals as goal
use Rattle.image_strip.proofs.anew.class_places.Goals.{then-is_class_reached+in_ok-set_place, else-is_class_reached}

pub loop-id-preserved : goal.loop-id-preserved
loop-id-preserved c =
    let p : ℕ → _ = is_class_marked c.args.image.now.classes c.args.reach.now.classes in
    let order = c.classes-id-items.result.now in
    let i = c.loop-id.id-index in
    let k = c.id-item.result in
    let n = c.loop-id.count in
    let old = c.loop-id.places.items in
    let h = c.loop-id-test.true in
    let read = c.id-item.is in
    let before = c.loop-id.invariant in
    elim c.if-is_class_reached.branch [
      | then-is_class_reached+in_ok-set_place w ↦
          let kept = sym c.is_class_reached.ensures ∙ w.if-is_class_reached.true in
          record {
            within = subst (λ (m : ℕ). m ≤ i + 1) (sym w.count-is) (omega (arith, before.within));
            count = w.count-is ∙ count-more p order i k n old h read before.count before.places kept;
            places = subst (λ (v : Vec ℕ Global). ArePlaces (filter p (take (i + 1) order)) v.items) (sym w.places-is)
                (places-turn p order i k n old h read before.count before.places w.set_place.new.places.items kept w.in_ok-set_place.ensures);
          }
      | else-is_class_reached w ↦
          let kept = sym c.is_class_reached.ensures ∙ w.if-is_class_reached.false in
          record {
            within = subst (λ (m : ℕ). m ≤ i + 1) (sym w.count-is) (omega (arith, before.within));
            count = w.count-is ∙ count-same p order i k n old h read before.count before.places kept;
            places = subst (λ (v : Vec ℕ Global). ArePlaces (filter p (take (i + 1) order)) v.items) (sym w.places-is)
                (places-left p order i k n old h read before.count before.places kept);
          }
    ]
