use Rattle.std.proofs.Common.{◌≡◌, ℕ, ◌-◌, List, Some, slice_get, sym, ap, subst, ◌∙◌, arith}
use Rattle.image_laws.proofs.Orders.{stands-live}
use Rattle.class_table.specs.Order.{without}
use Rattle.class_table.specs.Slots.{Slots}
use Rattle.image_strip.specs.Reached.{is_marked}
use Rattle.image_strip.proofs.Taken.{IsTaken, stands-at, taken-out, taken-last}
use Rattle.image_strip.proofs.stripped.strip_methods.Goals as goal

pub set_live-requires-clause-there : goal.set_live-requires-clause-there
set_live-requires-clause-there c =
    let k = c.loop-left.left - 1 in
    let slot = c.index-methods-left.result in
    let order = c.loop-left.image.method_order in
    let at : slice_get order k ≡ Some slot = stands-at c.methods.result.now order k slot c.methods.ensures.value (omega (arith, c.loop-left-test.true, c.loop-left.invariant.taken.within)) c.index-methods-left.is in
    c.methods.ensures.order.below slot (stands-live slot order k at)

pub loop-left-preserved-then-not-has_method : goal.loop-left-preserved-then-not-has_method
loop-left-preserved-then-not-has_method c =
    let k = c.loop-left.left - 1 in
    let slot = c.index-methods-left.result in
    let s = c.args.image.now in
    let order = c.loop-left.image.method_order in
    let p : ℕ → _ = is_marked c.args.reach.now.methods in
    let at : slice_get order k ≡ Some slot = stands-at c.methods.result.now order k slot c.methods.ensures.value (omega (arith, c.loop-left-test.true, c.loop-left.invariant.taken.within)) c.index-methods-left.is in
    let order-is : c.set_live.new.self.method_order ≡ without slot order = ap (λ (t : Slots). t.method_order) c.set_live.ensures.image in
    record {
      others =
          c.set_live.ensures.image
          ∙ ap (λ (t : Slots). record t { method_order = without slot order }) c.loop-left.invariant.others
          ∙ ap (λ (ks : List ℕ). record s { method_order = ks }) (sym order-is);
      taken =
          subst (λ (ks : List ℕ). IsTaken p s.method_order ks k) (sym order-is)
          (taken-out p s.method_order order c.loop-left.left k slot (omega (arith, c.loop-left-test.true)) at c.loop-left.invariant.taken (sym c.has_method.ensures ∙ c.if-not-has_method.true));
    }

pub returns : goal.returns
returns c =
    let s = c.args.image.now in
    let order = c.loop-left.image.method_order in
    let p : ℕ → _ = is_marked c.args.reach.now.methods in
    c.loop-left.invariant.others
    ∙ ap (λ (ks : List ℕ). record s { method_order = ks }) (taken-last p s.method_order order (subst (λ (n : ℕ). IsTaken p s.method_order order n) (omega (arith, c.loop-left-test.false)) c.loop-left.invariant.taken))
