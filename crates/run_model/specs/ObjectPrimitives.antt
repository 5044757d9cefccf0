-- The primitives of all objects, of classes, of closures and of `Transcript`.
use Rattle.std.specs.Prelude.{ℕ, ◌==◌, if◌then◌else◌, List, [], ◌∷◌, length, slice_get, pos, Some, None, codes}
use Rattle.std.specs.List.{list_any}
use Rattle.std.specs.Option.{option_map_or}
use Rattle.rb_base.specs.Names.{text_eq}
use Rattle.image_model.specs.Image.{ClassOf}
use Rattle.image_model.specs.Chain.{chain}
use Rattle.run_model.specs.Values.{Name, Value, true_value, false_value, int_value, string_value, symbol_value, class_value, object_value, array_value, shown, printed, reflective, bad_argument, wrong_arity, user_error}
use Rattle.run_model.specs.Store.{Heap, with_object}
use Rattle.run_model.specs.Views.{elements, class_name_of, is_meta, same_value, view_of}
use Rattle.run_model.specs.Calls.{Call, PrimResult, answers, faults, enters, argument, at_once, demands, makes_array, answers_truth, as_bytes, as_class, as_closure, as_transcript}

-- whether the receiver and the argument are the same
abbrev pub is_same : Call → PrimResult
is_same c = answers_truth c (same_value c.receiver (argument c 0))

-- the class of the receiver, which is no class itself
abbrev pub gives_class : Call → PrimResult
gives_class c = if is_meta c.receiver then faults reflective else at_once c (class_value (class_name_of c.heap c.receiver))

-- the name of the class whose instance a value is; a class is one of `Class`
abbrev pub instance_class : Heap → Value → Name
instance_class h (class_value d) = codes "Class"
instance_class h v = class_name_of h v

-- whether a class stands on the chain of the class of another name
abbrev pub is_on_chain : List (ClassOf Name) → Name → Name → Value
is_on_chain classes d n = if list_any (λ (k : ClassOf Name). text_eq d k.name) (chain text_eq classes (Some n)) then true_value else false_value

-- whether a class is on the chain of the receiver's class
abbrev pub is_kind_of : Call → PrimResult
is_kind_of c = demands c (as_class (argument c 0)) (λ d. at_once c (is_on_chain c.classes d (instance_class c.heap c.receiver)))

-- a new object with the contents of the object of a number
abbrev pub copies_object : Call → ℕ → PrimResult
copies_object c k = option_map_or (λ o. answers 0 None (object_value (length c.heap.objects)) (with_object c.heap o)) (slice_get c.heap.objects k) (at_once c (object_value k))

-- a copy of an object or array, and any other value itself
abbrev pub copy_of : Call → Value → PrimResult
copy_of c (object_value k) = copies_object c k
copy_of c (array_value k) = makes_array c (elements c.heap k)
copy_of c v = at_once c v

-- a copy of the receiver
abbrev pub copies : Call → PrimResult
copies c = copy_of c c.receiver

-- the error with the bytes of a string or symbol
abbrev pub raises_error : Call → PrimResult
raises_error c = demands c (as_bytes (argument c 0)) (λ t. faults (user_error t))

-- a reflective message
abbrev pub is_reflective : Call → PrimResult
is_reflective c = faults reflective

-- the classes whose instances are values with a spelling or a use of their own
abbrev pub value_classes : List Name
value_classes =
    codes "UndefinedObject" ∷ codes "True" ∷ codes "False" ∷ codes "Integer" ∷ codes "Character" ∷ codes "String" ∷ codes "Symbol"
    ∷ codes "Array" ∷ codes "Block" ∷ codes "Class" ∷ codes "TextCollector" ∷ []

-- a new object of a class
abbrev pub new_object : Call → Name → PrimResult
new_object c d = answers 0 None (object_value (length c.heap.objects)) (with_object c.heap (record { class = d; fields = [] }))

-- a new instance of a class: an empty array, an empty string, or an object; the other classes of values have no new instances
abbrev pub instance_of : Call → Name → PrimResult
instance_of c d =
    if text_eq d (codes "Array") then makes_array c []
    else if text_eq d (codes "String") then at_once c (string_value [])
    else if list_any (text_eq d) value_classes then faults (bad_argument c.number)
    else new_object c d

-- a new instance of the receiver
abbrev pub gives_instance : Call → PrimResult
gives_instance c = demands c (as_class c.receiver) (λ d. instance_of c d)

-- a closure is entered that has as many parameters as there are arguments
abbrev pub enters_closure : Call → PrimResult
enters_closure c = demands c (as_closure c.receiver) (λ k. if c.arity k == length c.arguments then enters k else faults (wrong_arity (length c.arguments)))

-- how many parameters a closure has
abbrev pub counts_parameters : Call → PrimResult
counts_parameters c = demands c (as_closure c.receiver) (λ k. at_once c (int_value (pos (c.arity k))))

-- the bytes of a string or symbol are shown, which wants as many ticks
abbrev pub shows : Call → PrimResult
shows c = demands c (as_transcript c.receiver) (λ w. demands c (as_bytes (argument c 0)) (λ t. answers (length t) (Some (shown t)) c.receiver c.heap))

-- how many ticks printing a value wants: the length of a string, symbol or array
abbrev pub printed_length : Heap → Value → ℕ
printed_length h (string_value t) = length t
printed_length h (symbol_value t) = length t
printed_length h (array_value k) = length (elements h k)
printed_length h v = 0

-- the view of the argument is printed
abbrev pub prints : Call → PrimResult
prints c = demands c (as_transcript c.receiver) (λ w. answers (printed_length c.heap (argument c 0)) (Some (printed (view_of c.heap (argument c 0)))) c.receiver c.heap)
