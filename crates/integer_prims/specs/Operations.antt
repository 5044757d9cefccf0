-- What the primitives of two integers answer.
use Rattle.std.specs.Prelude.{if◌then◌else◌, ℤ, ◌+ℤ◌, ◌-ℤ◌, ◌*ℤ◌, int_lt}
use Rattle.std.specs.Int.{int_bit_and, int_bit_or, w64}
use Rattle.run_model.specs.Values.{int_value, unsupported}
use Rattle.run_model.specs.Numbers.{is_zero, floor_quotient, floor_remainder, shifted}
use Rattle.run_model.specs.Calls.{Call, PrimResult, faults, at_once, answers_integer, answers_truth}
use Rattle.run_model.specs.IntegerPrimitives.{divisor}
use Rattle.integer_prims.specs.declared.integers.Operation.{Operation}
use Rattle.integer_prims.specs.declared.integers.Operation.TheVariants as operation

-- what an operation on two integers comes to
abbrev pub applied : Operation → Call → ℤ → ℤ → PrimResult
applied operation.Add c x y = answers_integer c (x +ℤ y)
applied operation.Subtract c x y = answers_integer c (x -ℤ y)
applied operation.Multiply c x y = answers_integer c (x *ℤ y)
applied operation.DivideDown c x y = divisor y (answers_integer c (floor_quotient x y))
applied operation.Remainder c x y = divisor y (answers_integer c (floor_remainder x y))
applied operation.DivideExactly c x y = divisor y (if is_zero (floor_remainder x y) then answers_integer c (floor_quotient x y) else faults unsupported)
applied operation.Less c x y = answers_truth c (int_lt x y)
applied operation.BitsInBoth c x y = at_once c (int_value (int_bit_and w64 x y))
applied operation.BitsInAny c x y = at_once c (int_value (int_bit_or w64 x y))
applied operation.Shift c x y = answers_integer c (shifted x y)
