-- What a value of the program stands for.
use Rattle.run_model.specs.Values.{Value, nil_value, true_value, false_value, int_value, char_value, string_value, symbol_value, class_value, object_value, array_value, closure_value, transcript_value}
use Rattle.st_meaning.specs.declared.value.ValueKind.{ValueKind}
use Rattle.st_meaning.specs.declared.value.ValueKind.TheVariants as kind

-- the value of runs
abbrev pub value_of : ValueKind → Value
value_of kind.Nil = nil_value
value_of kind.True = true_value
value_of kind.False = false_value
value_of (kind.Int z) = int_value z
value_of (kind.Char b) = char_value b
value_of (kind.Str t) = string_value t
value_of (kind.Sym t) = symbol_value t
value_of (kind.Class c) = class_value c
value_of (kind.Object k) = object_value k
value_of (kind.Array k) = array_value k
value_of (kind.Closure k) = closure_value k
value_of kind.Transcript = transcript_value
