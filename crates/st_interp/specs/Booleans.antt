-- Truth values among values.
use Rattle.std.specs.Prelude.{Bool, true, false, Option, Some, None}
use Rattle.run_model.specs.Values.{Value, true_value, false_value}

-- the truth value that a value is
abbrev pub boolean_of : Value → Option Bool
boolean_of true_value = Some true
boolean_of false_value = Some false
boolean_of v = None
