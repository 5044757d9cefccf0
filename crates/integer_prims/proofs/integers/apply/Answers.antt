use Rattle.std.proofs.Common.{◌≡◌, ◌∙◌, ℤ, ◌+ℤ◌, ◌-ℤ◌, ◌*ℤ◌, if◌then◌else◌, FitsSigned, sym, ap, rules}
use Rattle.std.specs.Prelude.{int_lt}
use Rattle.std.specs.Int.{w64}
use Rattle.run_model.specs.Values.{unsupported}
use Rattle.run_model.specs.Numbers.{fitting, is_zero, floor_quotient, floor_remainder, shifted}
use Rattle.run_model.specs.Calls.{faults, answers_integer, answers_truth}
use Rattle.run_model.specs.IntegerPrimitives.{divisor}
use Rattle.prim_calls.specs.Calls.{call_of}
use Rattle.prim_calls.specs.Replies.{reply_of}
use Rattle.integer_prims.specs.Operations.{applied}
use Rattle.integer_prims.proofs.RightKinds.{both, no_argument, no_receiver, answered, divided, not_zero, passed}
use Rattle.integer_prims.proofs.integers.apply.Goals as goal

pub returns-in-Add : goal.returns-in-Add
returns-in-Add c w =
    let cc = call_of w c.args.call.now in
    answered cc (c.args.x +ℤ c.args.y) c.sum.result (reply_of c.args.call.now.heap.now c.fitted.result) (c.fitted.ensures w)
    (c.sum.ensures ∙ passed (λ x y. fitting (x +ℤ y)) c.args.x c.args.y c.ranges.x c.ranges.y)
    ∙ ap (λ o. applied o cc c.args.x c.args.y) (sym c.in-Add.is)

pub returns-in-Subtract : goal.returns-in-Subtract
returns-in-Subtract c w =
    let cc = call_of w c.args.call.now in
    answered cc (c.args.x -ℤ c.args.y) c.difference.result (reply_of c.args.call.now.heap.now c.fitted-in-Subtract.result) (c.fitted-in-Subtract.ensures w)
    (c.difference.ensures ∙ passed (λ x y. fitting (x -ℤ y)) c.args.x c.args.y c.ranges.x c.ranges.y)
    ∙ ap (λ o. applied o cc c.args.x c.args.y) (sym c.in-Subtract.is)

pub returns-in-Multiply : goal.returns-in-Multiply
returns-in-Multiply c w =
    let cc = call_of w c.args.call.now in
    answered cc (c.args.x *ℤ c.args.y) c.product.result (reply_of c.args.call.now.heap.now c.fitted-in-Multiply.result) (c.fitted-in-Multiply.ensures w)
    (c.product.ensures ∙ passed (λ x y. fitting (x *ℤ y)) c.args.x c.args.y c.ranges.x c.ranges.y)
    ∙ ap (λ o. applied o cc c.args.x c.args.y) (sym c.in-Multiply.is)

pub returns-in-Shift : goal.returns-in-Shift
returns-in-Shift c w =
    let cc = call_of w c.args.call.now in
    answered cc (shifted c.args.x c.args.y) c.shifted.result (reply_of c.args.call.now.heap.now c.fitted-in-Shift.result) (c.fitted-in-Shift.ensures w)
    (c.shifted.ensures ∙ passed (λ x y. fitting (shifted x y)) c.args.x c.args.y c.ranges.x c.ranges.y)
    ∙ ap (λ o. applied o cc c.args.x c.args.y) (sym c.in-Shift.is)

pub returns-in-DivideDown : goal.returns-in-DivideDown
returns-in-DivideDown c w =
    let cc = call_of w c.args.call.now in
    c.quotient.ensures w ∙ passed (λ x y. divisor y (answers_integer cc (floor_quotient x y))) c.args.x c.args.y c.ranges.x c.ranges.y ∙ ap (λ o. applied o cc c.args.x c.args.y) (sym c.in-DivideDown.is)

pub returns-in-Remainder : goal.returns-in-Remainder
returns-in-Remainder c w =
    let cc = call_of w c.args.call.now in
    c.remainder.ensures w ∙ passed (λ x y. divisor y (answers_integer cc (floor_remainder x y))) c.args.x c.args.y c.ranges.x c.ranges.y ∙ ap (λ o. applied o cc c.args.x c.args.y) (sym c.in-Remainder.is)

pub returns-in-DivideExactly : goal.returns-in-DivideExactly
returns-in-DivideExactly c w =
    let cc = call_of w c.args.call.now in
    c.whole_quotient.ensures w ∙ passed (λ x y. divisor y (if is_zero (floor_remainder x y) then answers_integer cc (floor_quotient x y) else faults unsupported)) c.args.x c.args.y c.ranges.x c.ranges.y ∙ ap (λ o. applied o cc c.args.x c.args.y) (sym c.in-DivideExactly.is)

pub returns-in-Less : goal.returns-in-Less
returns-in-Less c w =
    let cc = call_of w c.args.call.now in
    c.truth.ensures w ∙ passed (λ x y. answers_truth cc (int_lt x y)) c.args.x c.args.y c.ranges.x c.ranges.y ∙ ap (λ o. applied o cc c.args.x c.args.y) (sym c.in-Less.is)
