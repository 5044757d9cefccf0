use Rattle.std.proofs.Common.{◌≡◌, ◌<◌, ◌≤◌, ◌∙◌, refl, sym, ap, subst, length, take, List, ℕ, arith}
use Rattle.std.proofs.lemmas.List.{take_all}
use Rattle.std.proofs.lemmas.Result.{err_from_is_err_and}
use Rattle.class_table.specs.declared.record.MethodRec.{MethodRec}
use Rattle.class_table.specs.Slots.{Slots}
use Rattle.class_table.specs.Changing.{changed_at}
use Rattle.class_table.specs.Valid.{IsOrderly}
use Rattle.canonical_image.specs.Sources.{canonical_rec, all_changed}
use Rattle.canonical_image.proofs.Slots.{next_slot, all_more}
use Rattle.canonical_image.proofs.Orderly.{orderly_changed}
use Rattle.canonical_image.proofs.format.format_methods.Goals as goal

pub loop-place-init : goal.loop-place-init
loop-place-init g c = record { is = refl; orderly = c.requires }

pub loop-place-preserved : goal.loop-place-preserved
loop-place-preserved g c =
    let first = c.args.image.now in
    let f = canonical_rec first.names in
    let p = c.loop-place.place in
    let k = c.index-methods-place.result in
    let so_far = c.loop-place.invariant.is in
    let is = c.in_ok-format_slot.ensures.methods in
    let order : c.methods-in-loop-place.result.now ≡ first.method_order = c.methods-in-loop-place.ensures.value ∙ ap (λ (t : Slots). t.method_order) so_far in
    let there : p < length c.methods-in-loop-place.result.now = rw (c.methods.ensures.value, sym c.methods-in-loop-place.ensures.value) at c.loop-place-test.true in
    record {
      is = is
          ∙ ap (λ (t : Slots). let u : Slots = record t { methods = changed_at (canonical_rec t.names) t.methods k } in u) so_far
          ∙ ap (λ (ms : List MethodRec). let u : Slots = record first { methods = ms } in u)
          (all_more f first.methods (take p first.method_order) k ∙ ap (λ (ks : List ℕ). all_changed f first.methods ks) (next_slot first.method_order c.methods-in-loop-place.result.now p k order there c.index-methods-place.is));
      orderly = subst (λ (t : Slots). IsOrderly t) (sym is) (orderly_changed c.loop-place.image k c.loop-place.invariant.orderly);
    }

pub returns-in_err-format_slot-clause-part : goal.returns-in_err-format_slot-clause-part
returns-in_err-format_slot-clause-part g c =
    let e = err_from_is_err_and c.from_residual.result c.from_residual.ensures.1 in
    rw e.1 (c.loop-place.place, c.in_err-format_slot.ensures.kept ∙ c.loop-place.invariant.is)

pub returns-clause-methods : goal.returns-clause-methods
returns-clause-methods g c =
    let first = c.args.image.now in
    let p = c.loop-place.place in
    let so_far = c.loop-place.invariant.is in
    let enough : length first.method_order ≤ p = omega (arith, c.loop-place-test.false, ap length c.methods.ensures.value, ap (λ (t : Slots). length t.method_order) so_far) in
    so_far ∙ ap (λ (ks : List ℕ). let u : Slots = record first { methods = all_changed (canonical_rec first.names) first.methods ks } in u) (take_all p first.method_order enough)
