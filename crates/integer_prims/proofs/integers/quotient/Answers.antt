use Rattle.std.proofs.Common.{◌≡◌, ◌∙◌, ℤ, ◌+ℤ◌, ◌-ℤ◌, ◌*ℤ◌, if◌then◌else◌, FitsSigned, sym, ap, rules}
use Rattle.std.specs.Prelude.{int_lt}
use Rattle.std.specs.Int.{w64}
use Rattle.run_model.specs.Values.{unsupported}
use Rattle.run_model.specs.Numbers.{fitting, is_zero, floor_quotient, floor_remainder, shifted}
use Rattle.run_model.specs.Calls.{faults, answers_integer, answers_truth}
use Rattle.run_model.specs.IntegerPrimitives.{divisor}
use Rattle.prim_calls.specs.Calls.{call_of}
use Rattle.prim_calls.specs.Replies.{reply_of}
use Rattle.integer_prims.specs.Operations.{applied}
use Rattle.integer_prims.proofs.RightKinds.{both, no_argument, no_receiver, answered, divided, not_zero, passed}
use Rattle.integer_prims.proofs.integers.quotient.Goals as goal

pub returns : goal.returns
returns c w =
    let cc = call_of w c.args.call.now in
    divided c.args.y (answers_integer cc (floor_quotient c.args.x c.args.y)) (reply_of c.args.call.now.heap.now c.fitted.result) (not_zero c.args.y c.if-y-eq0.false)
    (answered cc (floor_quotient c.args.x c.args.y) c.floor_quotient.result (reply_of c.args.call.now.heap.now c.fitted.result) (c.fitted.ensures w)
    (c.floor_quotient.ensures ∙ passed (λ x y. fitting (floor_quotient x y)) c.args.x c.args.y c.ranges.x c.ranges.y))
