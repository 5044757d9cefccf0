use Rattle.std.proofs.Common.{◌≡◌, ◌∙◌, ℕ, ◌^◌, ◌≤◌, pos, to_z, of_z, ap, sym, arith}
use Rattle.std.specs.Prelude.{unsigned_abs, ◌*ℤ◌, ◌-ℤ◌}
use Rattle.std.specs.Int.{w64, w128}
use Rattle.std.proofs.lemmas.Int.{to_z-of_z}
use Rattle.run_model.specs.Numbers.{fitting, floor_quotient}
use Rattle.prim_numbers.proofs.Wide.{widened, passed, passed_product, rest_fits, passed_rest, size_within}
use Rattle.prim_numbers.proofs.division.floor_remainder.Goals as goal

pub overflow_sub-x : goal.overflow_sub-x
overflow_sub-x c =
    let b = c.quotient.ensures.bound in
    let d = size_within c.args.y c.ranges.y in
    rw (widened c.args.x c.ranges.x, passed c.quotient.result b, widened c.args.y c.ranges.y, passed_product c.quotient.result c.args.y b d)
    (rest_fits c.args.x c.quotient.result c.args.y c.ranges.x b d)

pub returns : goal.returns
returns c =
    let b = c.quotient.ensures.bound in
    let d = size_within c.args.y c.ranges.y in
    let x = widened c.args.x c.ranges.x in
    let q = passed c.quotient.result b in
    let y = widened c.args.y c.ranges.y in
    c.fitted.ensures
    ∙ ap fitting ((λ i. to_z w128 (of_z w128 (x i -ℤ to_z w128 (of_z w128 (q i *ℤ y i))))) ∙ ap (λ z. to_z w128 (of_z w128 (c.args.x -ℤ z))) (passed_product c.quotient.result c.args.y b d)
    ∙ passed_rest c.args.x c.quotient.result c.args.y c.ranges.x b d ∙ ap (λ z. c.args.x -ℤ z *ℤ c.args.y) (c.quotient.ensures.value ∙ (λ i. floor_quotient (to_z-of_z w64 c.args.x c.ranges.x i) (to_z-of_z w64 c.args.y c.ranges.y i))))
