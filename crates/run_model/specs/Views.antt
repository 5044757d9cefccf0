-- What is seen of values, the names of their classes, and how runs are printed.
use Rattle.std.specs.Prelude.{ℕ, ◌==◌, nat_eq, Bool, true, false, if◌then◌else◌, List, [], ◌∷◌, ◌++◌, map, length, flat_map, reverse, slice_get, option_map, unwrap_or, codes}
use Rattle.std.specs.Ordering.{int_eq}
use Rattle.std.specs.List.{join_by}
use Rattle.std.specs.Fmt.{decimal, signed_decimal}
use Rattle.rb_base.specs.Names.{text_eq}
use Rattle.rb_base.specs.Doubling.{doubled}
use Rattle.run_model.specs.Values.{Name, Value, nil_value, true_value, false_value, int_value, char_value, string_value, symbol_value, class_value, object_value, array_value, closure_value, transcript_value, Atom, nil_atom, true_atom, false_atom, int_atom, char_atom, string_atom, symbol_atom, class_atom, object_atom, array_atom, block_atom, transcript_atom, View, one, items, Event, shown, printed, RunError, does_not_understand, cannot_return, non_boolean, undeclared_name, not_assignable, unsupported, reflective, overflow, divide_by_zero, bad_index, bad_argument, wrong_arity, too_long, user_error, Outcome, done, failed, spent}
use Rattle.run_model.specs.Store.{Object, Heap}

-- the name of an object's class
abbrev pub class_of_object : Heap → ℕ → Name
class_of_object h k = unwrap_or (option_map (λ (o : Object). o.class) (slice_get h.objects k)) []

-- the elements of an array
abbrev pub elements : Heap → ℕ → List Value
elements h k = unwrap_or (slice_get h.arrays k) []

-- the name of the class of a value; a class is given by its own name, and what it understands is on its class side
abbrev pub class_name_of : Heap → Value → Name
class_name_of h nil_value = codes "UndefinedObject"
class_name_of h true_value = codes "True"
class_name_of h false_value = codes "False"
class_name_of h (int_value z) = codes "Integer"
class_name_of h (char_value b) = codes "Character"
class_name_of h (string_value t) = codes "String"
class_name_of h (symbol_value t) = codes "Symbol"
class_name_of h (class_value c) = c
class_name_of h (object_value k) = class_of_object h k
class_name_of h (array_value k) = codes "Array"
class_name_of h (closure_value k) = codes "Block"
class_name_of h transcript_value = codes "TextCollector"

-- whether a value is a class
abbrev pub is_meta : Value → Bool
is_meta (class_value c) = true
is_meta v = false

-- whether two values are the same: of one kind and contents, and objects, arrays and closures the very same
abbrev pub same_value : Value → Value → Bool
same_value nil_value nil_value = true
same_value true_value true_value = true
same_value false_value false_value = true
same_value (int_value x) (int_value y) = int_eq x y
same_value (char_value a) (char_value b) = nat_eq a b
same_value (string_value s) (string_value t) = text_eq s t
same_value (symbol_value s) (symbol_value t) = text_eq s t
same_value (class_value c) (class_value d) = text_eq c d
same_value (object_value j) (object_value k) = nat_eq j k
same_value (array_value j) (array_value k) = nat_eq j k
same_value (closure_value j) (closure_value k) = nat_eq j k
same_value transcript_value transcript_value = true
same_value v w = false

-- what is seen of a value inside an array
abbrev pub atom_of : Heap → Value → Atom
atom_of h nil_value = nil_atom
atom_of h true_value = true_atom
atom_of h false_value = false_atom
atom_of h (int_value z) = int_atom z
atom_of h (char_value b) = char_atom b
atom_of h (string_value t) = string_atom t
atom_of h (symbol_value t) = symbol_atom t
atom_of h (class_value c) = class_atom c
atom_of h (object_value k) = object_atom (class_of_object h k)
atom_of h (array_value k) = array_atom (length (elements h k))
atom_of h (closure_value k) = block_atom
atom_of h transcript_value = transcript_atom

-- what is seen of a value: of an array its elements
abbrev pub view_of : Heap → Value → View
view_of h (array_value k) = items (map (atom_of h) (elements h k))
view_of h v = one (atom_of h v)

-- a string in quotes, each quote in it doubled
abbrev pub string_text : List ℕ → List ℕ
string_text t = codes "'" ++ doubled 39 t ++ codes "'"

-- # and the bytes of a symbol
abbrev pub symbol_text : List ℕ → List ℕ
symbol_text t = codes "#" ++ t

-- $ and a byte
abbrev pub char_text : ℕ → List ℕ
char_text b = codes "$" ++ b ∷ []

-- how an atom is printed
abbrev pub atom_text : Atom → List ℕ
atom_text nil_atom = codes "nil"
atom_text true_atom = codes "true"
atom_text false_atom = codes "false"
atom_text (int_atom z) = signed_decimal z
atom_text (char_atom b) = char_text b
atom_text (string_atom t) = string_text t
atom_text (symbol_atom t) = symbol_text t
atom_text (class_atom c) = c
atom_text (object_atom c) = codes "an instance of " ++ c
atom_text (array_atom n) = codes "an Array of " ++ decimal n
atom_text block_atom = codes "a block"
atom_text transcript_atom = codes "Transcript"

-- how a view is printed: elements in parentheses with one blank between them
abbrev pub view_text : View → List ℕ
view_text (one a) = atom_text a
view_text (items atoms) = codes "(" ++ join_by atom_text (codes " ") atoms ++ codes ")"

-- the bytes of an event
abbrev pub event_text : Event → List ℕ
event_text (shown t) = t
event_text (printed v) = view_text v

-- a field of an error behind a blank
abbrev pub field_text : List ℕ → List ℕ
field_text t = codes " " ++ t

-- how an error is printed: its name, and behind a blank each of its fields
abbrev pub error_text : RunError → List ℕ
error_text (does_not_understand c meta s) = codes "DoesNotUnderstand" ++ field_text c ++ (if meta then codes " class" else []) ++ field_text s
error_text cannot_return = codes "CannotReturn"
error_text non_boolean = codes "NonBoolean"
error_text (undeclared_name n) = codes "Undeclared" ++ field_text n
error_text (not_assignable n) = codes "NotAssignable" ++ field_text n
error_text unsupported = codes "Unsupported"
error_text reflective = codes "Reflective"
error_text overflow = codes "Overflow"
error_text divide_by_zero = codes "DivideByZero"
error_text bad_index = codes "BadIndex"
error_text (bad_argument n) = codes "BadArgument" ++ field_text (decimal n)
error_text (wrong_arity n) = codes "WrongArity" ++ field_text (decimal n)
error_text too_long = codes "TooLong"
error_text (user_error t) = codes "UserError" ++ field_text t

-- the last line of a run that had so many ticks
abbrev pub outcome_text : ℕ → Outcome → List ℕ
outcome_text n (done v) = codes "=> " ++ view_text v
outcome_text n (failed e) = codes "error " ++ error_text e
outcome_text n spent = codes "spent " ++ decimal n

-- a line feed where a text is not empty and does not end with one
abbrev pub line_end : List ℕ → List ℕ
line_end [] = []
line_end (b ∷ t) = if b == 10 then [] else 10 ∷ []

-- what is printed of a run that had so many ticks: its events one after the other, a line feed where they do not end with one, and the last line
abbrev pub run_text : ℕ → List Event → Outcome → List ℕ
run_text n es o = flat_map event_text es ++ line_end (reverse (flat_map event_text es)) ++ outcome_text n o ++ 10 ∷ []
