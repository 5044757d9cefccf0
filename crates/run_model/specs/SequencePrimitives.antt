-- The primitives of strings, symbols and arrays.
use Rattle.std.specs.Prelude.{ℕ, zero, suc, ◌+◌, ◌-◌, nat_lt, ◌==◌, if◌then◌else◌, Bool, true, false, ◌&&◌, ◌||◌, List, [], ◌∷◌, ◌++◌, length, take, drop, set, replicate, slice_get, ℤ, pos, negsuc, nat_abs, ◌-ℤ◌, int_le, Option, Some, None, codes}
use Rattle.std.specs.Ordering.{int_eq}
use Rattle.std.specs.Option.{option_map_or}
use Rattle.rb_base.specs.Names.{text_eq}
use Rattle.run_model.specs.Values.{Name, Value, nil_value, int_value, char_value, string_value, symbol_value, class_value, array_value, bad_index, bad_argument}
use Rattle.run_model.specs.Store.{Heap, with_array}
use Rattle.run_model.specs.Views.{elements, string_text, symbol_text}
use Rattle.run_model.specs.Calls.{Call, PrimResult, answers, faults, argument, at_once, demands, of_length, makes_bytes, makes_array, answers_truth, as_integer, as_string, as_symbol, as_bytes, as_array, Sequence, of_bytes, of_values, as_sequence}

-- the item of a number, counted from 1
abbrev pub item_at : {X : Type 0} → List X → ℤ → Option X
item_at xs (pos zero) = None
item_at xs (pos (suc k)) = slice_get xs k
item_at xs (negsuc k) = None

-- the place of an item among the items, counted from 0
abbrev pub place_of : ℤ → ℕ
place_of z = nat_abs z - 1

-- the items from a number to a number, counted from 1: none where the second is one less than the first
abbrev pub items_between : {X : Type 0} → List X → ℤ → ℤ → Option (List X)
items_between xs a b =
    if int_eq b (a -ℤ pos 1) then Some []
    else if int_le (pos 1) a && int_le a b && int_le b (pos (length xs)) then Some (take (nat_abs (b -ℤ a) + 1) (drop (place_of a) xs))
    else None

-- goes on with a thing that is there, and else the index is outside
abbrev pub within : {A : Type 0} → Option A → (A → PrimResult) → PrimResult
within o go = option_map_or go o (faults bad_index)

-- goes on with the items of the receiver
abbrev pub with_items : Call → (Sequence → PrimResult) → PrimResult
with_items c go = demands c (as_sequence c.heap c.receiver) go

-- how many items there are
abbrev pub items_count : Sequence → ℕ
items_count (of_bytes t) = length t
items_count (of_values vs) = length vs

-- how long the receiver is
abbrev pub gives_length : Call → PrimResult
gives_length c = with_items c (λ q. at_once c (int_value (pos (items_count q))))

-- an item as a value: a byte of a string or symbol is a character
abbrev pub value_at : Sequence → ℤ → Option Value
value_at (of_bytes t) z = option_map_or (λ b. Some (char_value b)) (item_at t z) None
value_at (of_values vs) z = item_at vs z

-- the item of a number
abbrev pub gives_item : Call → PrimResult
gives_item c = with_items c (λ q. demands c (as_integer (argument c 0)) (λ z. within (value_at q z) (λ v. at_once c v)))

-- the heap with this value as an item of an array
abbrev pub with_item : Heap → ℕ → ℤ → Value → Heap
with_item h k z v = record h { arrays = set h.arrays k (set (elements h k) (place_of z) v) }

-- the item of a number is stored and answered
abbrev pub stores_item : Call → PrimResult
stores_item c =
    demands c (as_array c.receiver) (λ k. demands c (as_integer (argument c 0))
    (λ z. within (item_at (elements c.heap k) z) (λ old. answers 0 None (argument c 1) (with_item c.heap k z (argument c 1)))))

-- both joined: two arrays, or two of strings and symbols, which give a string
abbrev pub joined : Call → Sequence → Sequence → PrimResult
joined c (of_bytes s) (of_bytes t) = makes_bytes c string_value (s ++ t)
joined c (of_values vs) (of_values ws) = makes_array c (vs ++ ws)
joined c (of_bytes s) (of_values ws) = faults (bad_argument c.number)
joined c (of_values vs) (of_bytes t) = faults (bad_argument c.number)

-- receiver and argument joined
abbrev pub joins : Call → PrimResult
joins c = with_items c (λ q. demands c (as_sequence c.heap (argument c 0)) (λ r. joined c q r))

-- a part of an array, or of a string or symbol, which is a string
abbrev pub part_of : Call → Sequence → ℤ → ℤ → PrimResult
part_of c (of_bytes t) a b = within (items_between t a b) (λ u. makes_bytes c string_value u)
part_of c (of_values vs) a b = within (items_between vs a b) (λ us. makes_array c us)

-- the items from a number to a number
abbrev pub gives_part : Call → PrimResult
gives_part c = with_items c (λ q. demands c (as_integer (argument c 0)) (λ a. demands c (as_integer (argument c 1)) (λ b. part_of c q a b)))

-- whether a text stands before another, byte by byte
abbrev pub is_before : List ℕ → List ℕ → Bool
is_before s [] = false
is_before [] (b ∷ t) = true
is_before (a ∷ s) (b ∷ t) = nat_lt a b || a == b && is_before s t

-- whether the receiver stands before the argument
abbrev pub is_text_before : Call → PrimResult
is_text_before c = demands c (as_bytes c.receiver) (λ s. demands c (as_bytes (argument c 0)) (λ t. answers_truth c (is_before s t)))

-- the symbol of a string
abbrev pub symbol_of_string : Call → PrimResult
symbol_of_string c = demands c (as_string c.receiver) (λ t. makes_bytes c symbol_value t)

-- the string of a symbol
abbrev pub string_of_symbol : Call → PrimResult
string_of_symbol c = demands c (as_symbol c.receiver) (λ t. makes_bytes c string_value t)

-- how a string is printed
abbrev pub prints_string : Call → PrimResult
prints_string c = demands c (as_string c.receiver) (λ t. makes_bytes c string_value (string_text t))

-- how a symbol is printed
abbrev pub prints_symbol : Call → PrimResult
prints_symbol c = demands c (as_symbol c.receiver) (λ t. makes_bytes c string_value (symbol_text t))

-- the class `Array` itself
abbrev pub as_array_class : Value → Option Name
as_array_class (class_value d) = if text_eq d (codes "Array") then Some d else None
as_array_class v = None

-- the integer as a length
abbrev pub length_of : ℤ → Option ℕ
length_of (pos n) = Some n
length_of (negsuc n) = None

-- an array of so many nils
abbrev pub gives_array : Call → PrimResult
gives_array c =
    demands c (as_array_class c.receiver) (λ d. demands c (as_integer (argument c 0)) (λ z. demands c (length_of z)
    (λ n. of_length n (answers n None (array_value (length c.heap.arrays)) (with_array c.heap (replicate n nil_value))))))
