-- Values, and what is seen of a run: events, a result or an error.
use Rattle.std.specs.Prelude.{ℕ, ℤ, List, Bool}

-- names are texts, given by their bytes
abbrev pub Name : Type 0
Name = List ℕ

-- A value. Integers are those of 64 bits, characters are bytes; objects, arrays and closures are given by their numbers in the memory of a run.
pub data Value : Type 0 where
  nil_value : Value
  true_value : Value
  false_value : Value
  int_value : ℤ → Value
  char_value : ℕ → Value
  string_value : List ℕ → Value
  symbol_value : List ℕ → Value
  class_value : Name → Value
  object_value : ℕ → Value
  array_value : ℕ → Value
  closure_value : ℕ → Value
  transcript_value : Value

-- what is seen of a value inside an array: of an object the name of its class, of an array how long it is
pub data Atom : Type 0 where
  nil_atom : Atom
  true_atom : Atom
  false_atom : Atom
  int_atom : ℤ → Atom
  char_atom : ℕ → Atom
  string_atom : List ℕ → Atom
  symbol_atom : List ℕ → Atom
  class_atom : Name → Atom
  object_atom : Name → Atom
  array_atom : ℕ → Atom
  block_atom : Atom
  transcript_atom : Atom

-- what is seen of a value: of an array its elements
pub data View : Type 0 where
  one : Atom → View
  items : List Atom → View

-- what a run tells while it goes on: bytes that are shown, and a value that is printed
pub data Event : Type 0 where
  shown : List ℕ → Event
  printed : View → Event

-- Why a run fails: the class and side of a receiver and a selector that it does not understand; a return from a home that has ended; a test of neither true nor false; a name that stands for nothing; a class or `Transcript` that is assigned; a literal that is only kept; a reflective message; an integer over 64 bits; a division by zero; an index outside; a receiver or argument of the wrong kind, with the primitive's number; a closure with so many arguments that are not as many as its parameters; a string, symbol or array over 65,535 long; an error that the program itself raised.
pub data RunError : Type 0 where
  does_not_understand : (class : Name) (meta : Bool) (selector : Name) → RunError
  cannot_return : RunError
  non_boolean : RunError
  undeclared_name : Name → RunError
  not_assignable : Name → RunError
  unsupported : RunError
  reflective : RunError
  overflow : RunError
  divide_by_zero : RunError
  bad_index : RunError
  bad_argument : ℕ → RunError
  wrong_arity : ℕ → RunError
  too_long : RunError
  user_error : List ℕ → RunError

-- how a run comes out: with a result, with an error, or without ticks
pub data Outcome : Type 0 where
  done : View → Outcome
  failed : RunError → Outcome
  spent : Outcome
