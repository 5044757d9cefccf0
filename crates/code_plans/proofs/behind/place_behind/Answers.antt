use Rattle.std.proofs.Common.{◌≡◌, ◌-◌, ◌<◌, ℕ, Bool, Some, slice_get, take, length, sym, ap, ◌∙◌, arith}
use Rattle.std.specs.Prelude.{if◌then◌else◌}
use Rattle.std.proofs.Math.Seq.{take-length}
use Rattle.method_plans.proofs.Orders.{item-at}
use Rattle.code_plans.specs.Behind.{behind_last, is_beside}
use Rattle.code_plans.proofs.Places.{behind_last-down}
use Rattle.code_plans.proofs.behind.place_behind.Goals as goal

pub loop-place-init : goal.loop-place-init
loop-place-init c =
    let s = c.args.image.now in
    let same : length c.methods-methods.result.now ≡ length s.method_order = ap length c.methods-methods.ensures.value in
    let last = λ (n : ℕ). behind_last (is_beside s c.args.class c.args.meta) (take n s.method_order) in
    record {
      within = omega (arith, same);
      last = sym (ap last same ∙ ap (behind_last (is_beside s c.args.class c.args.meta)) (take-length s.method_order));
    }

pub returns-then-is_beside : goal.returns-then-is_beside
returns-then-is_beside c =
    let s = c.args.image.now in
    let n : ℕ = c.loop-place.place in
    let k = c.index-methods-place.result in
    let p : ℕ → Bool = is_beside s c.args.class c.args.meta in
    let same : length c.methods-methods.result.now ≡ length s.method_order = ap length c.methods-methods.ensures.value in
    let within : n - 1 < length c.methods-methods.result.now = omega (arith, same, c.loop-place.invariant.within, c.loop-place-test.true) in
    let at : slice_get s.method_order (n - 1) ≡ Some k = item-at c.methods-methods.result.now s.method_order (n - 1) k c.methods-methods.ensures.value within c.index-methods-place.is in
    sym (
    c.loop-place.invariant.last
    ∙ behind_last-down p s.method_order n k c.loop-place-test.true at
    ∙ ap (λ (b : Bool). if b then Some n else behind_last p (take (n - 1) s.method_order)) (sym c.is_beside.ensures ∙ c.if-is_beside.true))

pub loop-place-preserved : goal.loop-place-preserved
loop-place-preserved c =
    let s = c.args.image.now in
    let n : ℕ = c.loop-place.place in
    let k = c.index-methods-place.result in
    let p : ℕ → Bool = is_beside s c.args.class c.args.meta in
    let same : length c.methods-methods.result.now ≡ length s.method_order = ap length c.methods-methods.ensures.value in
    let within : n - 1 < length c.methods-methods.result.now = omega (arith, same, c.loop-place.invariant.within, c.loop-place-test.true) in
    let at : slice_get s.method_order (n - 1) ≡ Some k = item-at c.methods-methods.result.now s.method_order (n - 1) k c.methods-methods.ensures.value within c.index-methods-place.is in
    record {
      within = omega (arith, c.loop-place.invariant.within);
      last =
          c.loop-place.invariant.last
          ∙ behind_last-down p s.method_order n k c.loop-place-test.true at
          ∙ ap (λ (b : Bool). if b then Some n else behind_last p (take (n - 1) s.method_order)) (sym c.is_beside.ensures ∙ c.if-is_beside.false);
    }
