use Rattle.std.proofs.Common.{◌≡◌, ◌∙◌, ℕ, ◌^◌, ◌≤◌, pos, to_z, of_z, ap, arith}
use Rattle.std.specs.Prelude.{unsigned_abs, ◌*ℤ◌}
use Rattle.std.specs.Int.{w64, w128}
use Rattle.run_model.specs.Numbers.{fitting}
use Rattle.prim_numbers.proofs.Shifts.{pow_from}
use Rattle.prim_numbers.proofs.Wide.{widened, passed_power, product_fits, passed_product, size_within}
use Rattle.prim_numbers.proofs.shift.shifted_left.Goals as goal

pub overflow_mul-number : goal.overflow_mul-number
overflow_mul-number c =
    rw (widened c.args.number c.ranges.number, passed_power c.pow-factor.result c.args.places c.if-places-ge64.false c.pow-factor.ensures)
    (product_fits c.args.number (pos (2 ^ c.args.places)) (size_within c.args.number c.ranges.number) (pow_from c.args.places 63 (omega (arith, c.if-places-ge64.false))))

pub returns : goal.returns
returns c =
    let x = widened c.args.number c.ranges.number in
    let p = passed_power c.pow-factor.result c.args.places c.if-places-ge64.false c.pow-factor.ensures in
    let l : 2 ^ c.args.places ≤ 2 ^ 63 = pow_from c.args.places 63 (omega (arith, c.if-places-ge64.false)) in
    c.fitted.ensures
    ∙ ap fitting ((λ i. to_z w128 (of_z w128 (x i *ℤ p i))) ∙ passed_product c.args.number (pos (2 ^ c.args.places)) (size_within c.args.number c.ranges.number) l)
