-- Primitives leave objects with the classes that they have.
use Rattle.std.proofs.Common.{ℕ, List, [], ◌∷◌, ◌++◌, length, Option, Some, None}
use Rattle.std.specs.Prelude.{Bool, true, false, ◌==◌, cond, if◌then◌else◌, nat_lt, find, replicate, slice_get, codes, ℤ, ◌+ℤ◌, ◌-ℤ◌, ◌*ℤ◌}
use Rattle.std.specs.Fmt.{signed_decimal}
use Rattle.std.specs.List.{AllByRecursion, list_any}
use Rattle.std.specs.Option.{option_map_or}
use Rattle.rb_base.specs.Names.{text_eq}
use Rattle.run_model.specs.Values.{Name, Value, nil_value, true_value, false_value, int_value, char_value, string_value, symbol_value, class_value, object_value, array_value, closure_value, transcript_value, overflow, bad_argument, unsupported, reflective, wrong_arity}
use Rattle.run_model.specs.Store.{Object, with_array, with_object}
use Rattle.run_model.specs.Numbers.{is_zero, fitting, floor_quotient, floor_remainder, shifted}
use Rattle.run_model.specs.Views.{elements, is_meta, class_name_of, string_text, symbol_text, char_text}
use Rattle.run_model.specs.Calls.{Call, PrimResult, answers, faults, enters, argument, at_once, demands, of_length, makes_bytes, makes_array, answers_integer, as_integer, as_char, as_string, as_symbol, as_bytes, as_class, as_array, as_closure, as_transcript, Sequence, of_bytes, of_values, as_sequence}
use Rattle.run_model.specs.ObjectPrimitives.{copy_of, value_classes, new_object, instance_of, enters_closure}
use Rattle.run_model.specs.IntegerPrimitives.{two_integers, divisor, byte_of}
use Rattle.run_model.specs.SequencePrimitives.{item_at, items_between, within, with_items, value_at, joined, part_of, as_array_class, length_of}
use Rattle.run_model.specs.Primitives.{rows, primitive}
use Rattle.mapped_model.proofs.Objects.{Later, at-once, more-later}

-- the objects that there were are of the same classes in the heap then
abbrev pub KeepsClasses : List Object → PrimResult → Type 0
KeepsClasses os (answers n told v h) = Later os h.objects
KeepsClasses os (faults e) = Unit {0}
KeepsClasses os (enters k) = Unit {0}

-- what a primitive comes to keeps them
abbrev Keeps : Call → PrimResult → Type 0
Keeps c r = KeepsClasses c.heap.objects r

-- by a condition
either : (c : Call) (b : Bool) (x y : PrimResult) → Keeps c x → Keeps c y → Keeps c (if b then x else y)
either c true x y p q = p
either c false x y p q = q

-- where there may be a thing, and else a fault
where_there : {A : Type 0} (c : Call) (o : Option A) (go : A → PrimResult) (x : PrimResult) → Keeps c x → ((a : A) → Keeps c (go a)) → Keeps c (option_map_or go o x)
where_there c (Some a) go x p h = h a
where_there c None go x p h = p

-- a thing of the right kind
demanded : {A : Type 0} (c : Call) (o : Option A) (go : A → PrimResult) → ((a : A) → Keeps c (go a)) → Keeps c (demands c o go)
demanded c o go h = where_there c o go (faults (bad_argument c.number)) tt h

-- a thing that is there
there : {A : Type 0} (c : Call) (o : Option A) (go : A → PrimResult) → ((a : A) → Keeps c (go a)) → Keeps c (within o go)
there c (Some a) go h = h a
there c None go h = tt

-- an answer with the objects that there are
same : (c : Call) → Later c.heap.objects c.heap.objects
same c = at-once c.heap.objects

-- items
long : (c : Call) (n : ℕ) (r : PrimResult) → Keeps c r → Keeps c (of_length n r)
long c n r h = either c (nat_lt 65535 n) _ r tt h

bytes : (c : Call) (kind : List ℕ → Value) (t : List ℕ) → Keeps c (makes_bytes c kind t)
bytes c kind t = long c (length t) (answers (length t) None (kind t) c.heap) (same c)

array : (c : Call) (vs : List Value) → Keeps c (makes_array c vs)
array c vs = long c (length vs) (answers (length vs) None (array_value (length c.heap.arrays)) (with_array c.heap vs)) (same c)

-- integers
integer : (c : Call) (z : ℤ) → Keeps c (answers_integer c z)
integer c z = where_there c (fitting z) (λ x. at_once c (int_value x)) (faults overflow) tt (λ x. same c)

integers : (c : Call) (go : ℤ → ℤ → PrimResult) → ((x y : ℤ) → Keeps c (go x y)) → Keeps c (two_integers c go)
integers c go h = demanded c (as_integer c.receiver) _ (λ x. demanded c (as_integer (argument c 0)) (go x) (λ y. h x y))

divided : (c : Call) (y : ℤ) (r : PrimResult) → Keeps c r → Keeps c (divisor y r)
divided c y r h = either c (is_zero y) _ r tt h

-- the items of the receiver
items : (c : Call) (go : Sequence → PrimResult) → ((q : Sequence) → Keeps c (go q)) → Keeps c (with_items c go)
items c go h = demanded c (as_sequence c.heap c.receiver) go h

joining : (c : Call) (q r : Sequence) → Keeps c (joined c q r)
joining c (of_bytes s) (of_bytes t) = bytes c string_value (s ++ t)
joining c (of_values vs) (of_values ws) = array c (vs ++ ws)
joining c (of_bytes s) (of_values ws) = tt
joining c (of_values vs) (of_bytes t) = tt

part : (c : Call) (q : Sequence) (a b : ℤ) → Keeps c (part_of c q a b)
part c (of_bytes t) a b = there c (items_between t a b) _ (λ u. bytes c string_value u)
part c (of_values vs) a b = there c (items_between vs a b) _ (λ us. array c us)

-- one more object
one_more : (c : Call) (o : Object) → Later c.heap.objects (with_object c.heap o).objects
one_more c o = more-later c.heap.objects o

copying : (c : Call) (v : Value) → Keeps c (copy_of c v)
copying c (object_value k) = where_there c (slice_get c.heap.objects k) (λ o. answers 0 None (object_value (length c.heap.objects)) (with_object c.heap o)) (at_once c (object_value k)) (same c) (λ o. one_more c o)
copying c (array_value k) = array c (elements c.heap k)
copying c nil_value = same c
copying c true_value = same c
copying c false_value = same c
copying c (int_value z) = same c
copying c (char_value b) = same c
copying c (string_value t) = same c
copying c (symbol_value t) = same c
copying c (class_value d) = same c
copying c (closure_value k) = same c
copying c transcript_value = same c

instance : (c : Call) (d : Name) → Keeps c (instance_of c d)
instance c d =
    either c (text_eq d (codes "Array")) (makes_array c []) _ (array c [])
    (either c (text_eq d (codes "String")) (at_once c (string_value [])) _ (same c) (either c (list_any (text_eq d) value_classes) (faults (bad_argument c.number)) (new_object c d) tt (one_more c (record { class = d; fields = [] }))))

-- a primitive keeps them
abbrev IsKeeping : ℕ × (Call → PrimResult) → Type 0
IsKeeping row = (c : Call) → Keeps c (row.1 c)

-- each row does
rows-keep : AllByRecursion IsKeeping rows
rows-keep = (
  (λ c. same c),
  (
    (λ c. either c (is_meta c.receiver) (faults reflective) (at_once c (class_value (class_name_of c.heap c.receiver))) tt (same c)),
    (
      (λ c. demanded c (as_class (argument c 0)) _ (λ d. same c)),
      (
        (λ c. copying c c.receiver),
        (
          (λ c. demanded c (as_bytes (argument c 0)) _ (λ t. tt)),
          (
            (λ c. tt),
            (
              (λ c. demanded c (as_class c.receiver) _ (λ d. instance c d)),
              (
                (λ c. integers c _ (λ x y. integer c (x +ℤ y))),
                (
                  (λ c. integers c _ (λ x y. integer c (x -ℤ y))),
                  (
                    (λ c. integers c _ (λ x y. integer c (x *ℤ y))),
                    (
                      (λ c. integers c _ (λ x y. divided c y _ (integer c (floor_quotient x y)))),
                      (
                        (λ c. integers c _ (λ x y. divided c y _ (integer c (floor_remainder x y)))),
                        (
                          (λ c. integers c _ (λ x y. divided c y _ (either c (is_zero (floor_remainder x y)) (answers_integer c (floor_quotient x y)) (faults unsupported) (integer c (floor_quotient x y)) tt))),
                          (
                            (λ c. integers c _ (λ x y. same c)),
                            (
                              (λ c. integers c _ (λ x y. same c)),
                              (
                                (λ c. integers c _ (λ x y. same c)),
                                (
                                  (λ c. integers c _ (λ x y. integer c (shifted x y))),
                                  (
                                    (λ c. demanded c (as_integer c.receiver) _ (λ x. bytes c string_value (signed_decimal x))),
                                    (
                                      (λ c. demanded c (as_integer c.receiver) _ (λ x. demanded c (byte_of x) _ (λ b. same c))),
                                      (
                                        (λ c. items c _ (λ q. same c)),
                                        (
                                          (λ c. items c _ (λ q. demanded c (as_integer (argument c 0)) _ (λ z. there c (value_at q z) _ (λ v. same c)))),
                                          (
                                            (λ c. demanded c (as_array c.receiver) _ (λ k. demanded c (as_integer (argument c 0)) _ (λ z. there c (item_at (elements c.heap k) z) _ (λ old. same c)))),
                                            (
                                              (λ c. items c _ (λ q. demanded c (as_sequence c.heap (argument c 0)) _ (λ r. joining c q r))),
                                              (
                                                (λ c. items c _ (λ q. demanded c (as_integer (argument c 0)) _ (λ a. demanded c (as_integer (argument c 1)) _ (λ b. part c q a b)))),
                                                (
                                                  (λ c. demanded c (as_bytes c.receiver) _ (λ s. demanded c (as_bytes (argument c 0)) _ (λ t. same c))),
                                                  (
                                                    (λ c. demanded c (as_string c.receiver) _ (λ t. bytes c symbol_value t)),
                                                    (
                                                      (λ c. demanded c (as_string c.receiver) _ (λ t. bytes c string_value (string_text t))),
                                                      (
                                                        (λ c. demanded c (as_symbol c.receiver) _ (λ t. bytes c string_value t)),
                                                        (
                                                          (λ c. demanded c (as_symbol c.receiver) _ (λ t. bytes c string_value (symbol_text t))),
                                                          (
                                                            (λ c. demanded c (as_array_class c.receiver) _ (λ d. demanded c (as_integer (argument c 0)) _ (λ z. demanded c (length_of z) _ (λ n. long c n (answers n None (array_value (length c.heap.arrays)) (with_array c.heap (replicate n nil_value))) (same c))))),
                                                            (
                                                              (λ c. demanded c (as_char c.receiver) _ (λ b. same c)),
                                                              (
                                                                (λ c. demanded c (as_char c.receiver) _ (λ b. bytes c string_value (b ∷ []))),
                                                                (
                                                                  (λ c. demanded c (as_char c.receiver) _ (λ b. bytes c string_value (char_text b))),
                                                                  (
                                                                    enters-keep,
                                                                    (
                                                                      enters-keep,
                                                                      (
                                                                        enters-keep,
                                                                        (
                                                                          enters-keep,
                                                                          (
                                                                            (λ c. demanded c (as_closure c.receiver) _ (λ k. same c)),
                                                                            ((λ c. demanded c (as_transcript c.receiver) _ (λ w. demanded c (as_bytes (argument c 0)) _ (λ t. same c))), ((λ c. demanded c (as_transcript c.receiver) _ (λ w. same c)), tt)),
                                                                          ),
                                                                        ),
                                                                      ),
                                                                    ),
                                                                  ),
                                                                ),
                                                              ),
                                                            ),
                                                          ),
                                                        ),
                                                      ),
                                                    ),
                                                  ),
                                                ),
                                              ),
                                            ),
                                          ),
                                        ),
                                      ),
                                    ),
                                  ),
                                ),
                              ),
                            ),
                          ),
                        ),
                      ),
                    ),
                  ),
                ),
              ),
            ),
          ),
        ),
      ),
    ),
  ),
)
  where
    enters-keep : (c : Call) → Keeps c (enters_closure c)
    enters-keep c = demanded c (as_closure c.receiver) _ (λ k. either c (c.arity k == length c.arguments) (enters k) (faults (wrong_arity (length c.arguments))) tt tt)

-- the row that is found does
found-keeps : (c : Call) (xs : List (ℕ × (Call → PrimResult))) → AllByRecursion IsKeeping xs → Keeps c (option_map_or (λ row. row.1 c) (find (λ row. row.0 == c.number) xs) (faults (bad_argument c.number)))
found-keeps c [] all = tt
found-keeps c (x ∷ xs) all = by (x.0 == c.number) (found-keeps c xs all.1)
  where
    by : (b : Bool) → Keeps c (option_map_or (λ row. row.1 c) (find (λ row. row.0 == c.number) xs) (faults (bad_argument c.number))) →
        Keeps c (option_map_or (λ row. row.1 c) (cond b (Some x) (find (λ row. row.0 == c.number) xs)) (faults (bad_argument c.number)))
    by true ih = all.0 c
    by false ih = ih

-- each primitive keeps the classes of objects
pub primitive-keeps : (c : Call) → KeepsClasses c.heap.objects (primitive c)
unfolding primitive
primitive-keeps c = found-keeps c rows rows-keep
