-- What a primitive is given and what it comes to, and the kinds of values.
use Rattle.std.specs.Prelude.{ℕ, nat_lt, if◌then◌else◌, Bool, List, length, get_or, ℤ, Option, Some, None}
use Rattle.std.specs.Option.{option_map_or}
use Rattle.image_model.specs.Image.{ClassOf}
use Rattle.run_model.specs.Values.{Name, Value, nil_value, true_value, false_value, int_value, char_value, string_value, symbol_value, class_value, array_value, closure_value, transcript_value, Event, RunError, overflow, bad_argument, too_long}
use Rattle.run_model.specs.Store.{Heap, with_array}
use Rattle.run_model.specs.Numbers.{fitting}
use Rattle.run_model.specs.Views.{elements}

-- what a primitive is given: its number, receiver and arguments, the heap, how many parameters each closure has, and the classes of the image
pub record Call : Type 0 where
  pub number : ℕ
  pub receiver : Value
  pub arguments : List Value
  pub heap : Heap
  pub arity : ℕ → ℕ
  pub classes : List (ClassOf Name)

-- What a primitive comes to: an answer, with the ticks that it wants before anything else happens, the event that it tells, and the heap then; a fault, which leaves all as it was; or a closure that is entered with the arguments.
pub data PrimResult : Type 0 where
  answers : (ticks : ℕ) → Option Event → Value → Heap → PrimResult
  faults : RunError → PrimResult
  enters : ℕ → PrimResult

-- the argument of a number, counted from 0
abbrev pub argument : Call → ℕ → Value
argument c k = get_or c.arguments k nil_value

-- an answer that wants no ticks and leaves the heap as it is
abbrev pub at_once : Call → Value → PrimResult
at_once c v = answers 0 None v c.heap

-- goes on with a thing of the right kind, and is a fault where there is none
abbrev pub demands : {A : Type 0} → Call → Option A → (A → PrimResult) → PrimResult
demands c o go = option_map_or go o (faults (bad_argument c.number))

-- goes on with something of at most 65,535 items
abbrev pub of_length : ℕ → PrimResult → PrimResult
of_length n r = if nat_lt 65535 n then faults too_long else r

-- makes a string or symbol, and wants its length in ticks
abbrev pub makes_bytes : Call → (List ℕ → Value) → List ℕ → PrimResult
makes_bytes c kind t = of_length (length t) (answers (length t) None (kind t) c.heap)

-- makes an array, and wants its length in ticks
abbrev pub makes_array : Call → List Value → PrimResult
makes_array c vs = of_length (length vs) (answers (length vs) None (array_value (length c.heap.arrays)) (with_array c.heap vs))

-- answers an integer, which is a fault where it is not one of 64 bits
abbrev pub answers_integer : Call → ℤ → PrimResult
answers_integer c z = option_map_or (λ x. at_once c (int_value x)) (fitting z) (faults overflow)

-- true or false
abbrev pub truth : Bool → Value
truth b = if b then true_value else false_value

-- answers true or false
abbrev pub answers_truth : Call → Bool → PrimResult
answers_truth c b = at_once c (truth b)

-- the integer that a value is
abbrev pub as_integer : Value → Option ℤ
as_integer (int_value z) = Some z
as_integer v = None

-- the byte of a character
abbrev pub as_char : Value → Option ℕ
as_char (char_value b) = Some b
as_char v = None

-- the bytes of a string
abbrev pub as_string : Value → Option (List ℕ)
as_string (string_value t) = Some t
as_string v = None

-- the bytes of a symbol
abbrev pub as_symbol : Value → Option (List ℕ)
as_symbol (symbol_value t) = Some t
as_symbol v = None

-- the bytes of a string or symbol
abbrev pub as_bytes : Value → Option (List ℕ)
as_bytes (string_value t) = Some t
as_bytes (symbol_value t) = Some t
as_bytes v = None

-- the name of a class
abbrev pub as_class : Value → Option Name
as_class (class_value c) = Some c
as_class v = None

-- the number of an array
abbrev pub as_array : Value → Option ℕ
as_array (array_value k) = Some k
as_array v = None

-- the number of a closure
abbrev pub as_closure : Value → Option ℕ
as_closure (closure_value k) = Some k
as_closure v = None

-- `Transcript` itself
abbrev pub as_transcript : Value → Option Value
as_transcript transcript_value = Some transcript_value
as_transcript v = None

-- what has items in order: bytes, or values
pub data Sequence : Type 0 where
  of_bytes : List ℕ → Sequence
  of_values : List Value → Sequence

-- the items of a string, symbol or array
abbrev pub as_sequence : Heap → Value → Option Sequence
as_sequence h (string_value t) = Some (of_bytes t)
as_sequence h (symbol_value t) = Some (of_bytes t)
as_sequence h (array_value k) = Some (of_values (elements h k))
as_sequence h v = None
