use Rattle.std.proofs.Common.{◌≡◌, ℕ, ◌-◌, List, Some, slice_get, sym, ap, subst, ◌∙◌, arith}
use Rattle.image_laws.proofs.Orders.{stands-live}
use Rattle.class_table.specs.Order.{without}
use Rattle.class_table.specs.Slots.{Slots}
use Rattle.image_strip.specs.Stripped.{is_class_marked}
use Rattle.image_strip.proofs.Taken.{IsTaken, stands-at, taken-out, taken-last}
use Rattle.image_strip.proofs.stripped.strip_classes.Goals as goal

pub set_live-requires-clause-there : goal.set_live-requires-clause-there
set_live-requires-clause-there c =
    let k = c.loop-left.left - 1 in
    let slot = c.index-classes-left.result in
    let order = c.loop-left.image.class_order in
    let at : slice_get order k ≡ Some slot = stands-at c.classes.result.now order k slot c.classes.ensures.value (omega (arith, c.loop-left-test.true, c.loop-left.invariant.taken.within)) c.index-classes-left.is in
    c.classes.ensures.order.below slot (stands-live slot order k at)

pub loop-left-preserved-then-not-is_class_reached : goal.loop-left-preserved-then-not-is_class_reached
loop-left-preserved-then-not-is_class_reached c =
    let k = c.loop-left.left - 1 in
    let slot = c.index-classes-left.result in
    let s = c.args.image.now in
    let order = c.loop-left.image.class_order in
    let p : ℕ → _ = is_class_marked c.args.image.now.classes c.args.reach.now.classes in
    let at : slice_get order k ≡ Some slot = stands-at c.classes.result.now order k slot c.classes.ensures.value (omega (arith, c.loop-left-test.true, c.loop-left.invariant.taken.within)) c.index-classes-left.is in
    let order-is : c.set_live.new.self.class_order ≡ without slot order = ap (λ (t : Slots). t.class_order) c.set_live.ensures.image in
    record {
      others =
          c.set_live.ensures.image
          ∙ ap (λ (t : Slots). record t { class_order = without slot order }) c.loop-left.invariant.others
          ∙ ap (λ (ks : List ℕ). record s { class_order = ks }) (sym order-is);
      taken =
          subst (λ (ks : List ℕ). IsTaken p s.class_order ks k) (sym order-is)
          (taken-out p s.class_order order c.loop-left.left k slot (omega (arith, c.loop-left-test.true)) at c.loop-left.invariant.taken (ap (λ (t : Slots). is_class_marked t.classes c.args.reach.now.classes slot) (sym c.loop-left.invariant.others) ∙ sym c.is_class_reached.ensures ∙ c.if-not-is_class_reached.true));
    }

pub returns : goal.returns
returns c =
    let s = c.args.image.now in
    let order = c.loop-left.image.class_order in
    let p : ℕ → _ = is_class_marked c.args.image.now.classes c.args.reach.now.classes in
    c.loop-left.invariant.others
    ∙ ap (λ (ks : List ℕ). record s { class_order = ks }) (taken-last p s.class_order order (subst (λ (n : ℕ). IsTaken p s.class_order order n) (omega (arith, c.loop-left-test.false)) c.loop-left.invariant.taken))
