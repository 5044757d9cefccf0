use Rattle.std.proofs.Common.{◌≡◌, ◌∙◌, ℤ, ◌+ℤ◌, ◌-ℤ◌, ◌*ℤ◌, if◌then◌else◌, FitsSigned, sym, ap, rules}
use Rattle.std.specs.Prelude.{int_lt}
use Rattle.std.specs.Int.{w64}
use Rattle.run_model.specs.Values.{unsupported}
use Rattle.run_model.specs.Numbers.{fitting, is_zero, floor_quotient, floor_remainder, shifted}
use Rattle.run_model.specs.Calls.{faults, answers_integer, answers_truth}
use Rattle.run_model.specs.IntegerPrimitives.{divisor}
use Rattle.prim_calls.specs.Calls.{call_of}
use Rattle.prim_calls.specs.Replies.{reply_of}
use Rattle.integer_prims.specs.Operations.{applied}
use Rattle.integer_prims.proofs.RightKinds.{both, no_argument, no_receiver, answered, divided, not_zero, passed}
use Rattle.integer_prims.proofs.integers.on_integers.Goals as goal

pub returns-in-None-integer : goal.returns-in-None-integer
returns-in-None-integer c w =
    let cc = call_of w c.args.call.now in
    ap (reply_of c.args.call.now.heap.now) c.bad_argument-in-None-integer.ensures ∙ no_argument cc (applied c.args.operation cc) c.in-Some.x c.in-Some.ensures (c.in-None-integer.ensures w)

pub returns-in-Some-integer : goal.returns-in-Some-integer
returns-in-Some-integer c w =
    let cc = call_of w c.args.call.now in
    let x : FitsSigned w64 c.in-Some.x = search rules in
    let y : FitsSigned w64 c.in-Some-integer.y = search rules in
    c.apply.ensures w ∙ passed (applied c.args.operation cc) c.in-Some.x c.in-Some-integer.y x y
    ∙ both cc (applied c.args.operation cc) c.in-Some.x c.in-Some-integer.y c.in-Some.ensures (c.in-Some-integer.ensures w)
