-- Primitives give known classes where they are given such, and see of the classes of an image only how those that are known stand on each other's chains.
use Rattle.std.proofs.Common.{◌≡◌, ℕ, zero, suc, List, [], ◌∷◌, ◌++◌, length, Option, Some, None, refl, ap}
use Rattle.std.specs.Prelude.{Bool, true, false, ◌==◌, ◌&&◌, ◌+◌, cond, if◌then◌else◌, nat_lt, nat_abs, find, take, drop, replicate, slice_get, codes, unwrap_or, option_map, ℤ, pos, negsuc, ◌+ℤ◌, ◌-ℤ◌, ◌*ℤ◌, int_lt, int_le}
use Rattle.std.specs.Ordering.{int_eq}
use Rattle.std.specs.Fmt.{signed_decimal}
use Rattle.std.specs.List.{AllByRecursion, list_any}
use Rattle.std.specs.Option.{option_map_or}
use Rattle.rb_base.specs.Names.{text_eq}
use Rattle.image_model.specs.Image.{ClassOf}
use Rattle.image_model.specs.ImageNames.{OptionNames}
use Rattle.run_model.specs.Values.{Name, Value, nil_value, true_value, false_value, int_value, char_value, string_value, symbol_value, class_value, object_value, array_value, closure_value, transcript_value, overflow, bad_argument, unsupported, reflective, wrong_arity}
use Rattle.run_model.specs.Store.{Object, Heap, with_array, with_object}
use Rattle.run_model.specs.Numbers.{is_zero, fitting, floor_quotient, floor_remainder, shifted}
use Rattle.run_model.specs.Views.{elements, is_meta, class_name_of, class_of_object, string_text, symbol_text, char_text}
use Rattle.run_model.specs.Calls.{Call, PrimResult, answers, faults, enters, argument, at_once, demands, of_length, makes_bytes, makes_array, answers_integer, truth, as_integer, as_char, as_string, as_symbol, as_bytes, as_class, as_array, as_closure, as_transcript, Sequence, of_bytes, of_values, as_sequence}
use Rattle.run_model.specs.ObjectPrimitives.{is_on_chain, instance_class, is_kind_of, copy_of, value_classes, new_object, instance_of, enters_closure}
use Rattle.run_model.specs.IntegerPrimitives.{two_integers, divisor, byte_of}
use Rattle.run_model.specs.SequencePrimitives.{within, with_items, joined, part_of, item_at, items_between, place_of, value_at, with_item, is_before, as_array_class, length_of}
use Rattle.run_model.specs.Primitives.{rows, primitive}
use Rattle.lookup_model.proofs.KnownStores.{all-get, all-get_or, all-set, all-append, all-take, all-drop, all-replicate, KnownValue, KnownValues, KnownHeap, KnownObject, elements-known}

module _ (Class : Name → Type 0) (nothing : Class []) (kernel : AllByRecursion Class value_classes) where
  -- what a primitive is given
  abbrev pub KnownCall : Call → Type 0
  KnownCall c = KnownValue Class c.receiver × KnownValues Class c.arguments × KnownHeap Class c.heap

  -- what it comes to
  abbrev pub KnownResult : PrimResult → Type 0
  KnownResult (answers n told v h) = KnownValue Class v × KnownHeap Class h
  KnownResult (faults e) = Unit {0}
  KnownResult (enters k) = Unit {0}

  -- the class of an object
  object_class-known : (h : Heap) (k : ℕ) → KnownHeap Class h → Class (class_of_object h k)
  object_class-known h k a = by (slice_get h.objects k) (all-get (KnownObject Class) h.objects k a.0)
    where
      by : (o : Option Object) → OptionNames (KnownObject Class) o → Class (unwrap_or (option_map (λ (x : Object). x.class) o) [])
      by (Some x) p = p.0
      by None p = nothing

  -- the class of a value
  pub class-known : (h : Heap) (v : Value) → KnownValue Class v → KnownHeap Class h → Class (class_name_of h v)
  class-known h nil_value p a = kernel.0
  class-known h true_value p a = kernel.1.0
  class-known h false_value p a = kernel.1.1.0
  class-known h (int_value z) p a = kernel.1.1.1.0
  class-known h (char_value b) p a = kernel.1.1.1.1.0
  class-known h (string_value t) p a = kernel.1.1.1.1.1.0
  class-known h (symbol_value t) p a = kernel.1.1.1.1.1.1.0
  class-known h (class_value c) p a = p
  class-known h (object_value k) p a = object_class-known h k a
  class-known h (array_value k) p a = kernel.1.1.1.1.1.1.1.0
  class-known h (closure_value k) p a = kernel.1.1.1.1.1.1.1.1.0
  class-known h transcript_value p a = kernel.1.1.1.1.1.1.1.1.1.1.0

  instance_class-known : (h : Heap) (v : Value) → KnownValue Class v → KnownHeap Class h → Class (instance_class h v)
  instance_class-known h nil_value p a = kernel.0
  instance_class-known h true_value p a = kernel.1.0
  instance_class-known h false_value p a = kernel.1.1.0
  instance_class-known h (int_value z) p a = kernel.1.1.1.0
  instance_class-known h (char_value b) p a = kernel.1.1.1.1.0
  instance_class-known h (string_value t) p a = kernel.1.1.1.1.1.0
  instance_class-known h (symbol_value t) p a = kernel.1.1.1.1.1.1.0
  instance_class-known h (class_value c) p a = kernel.1.1.1.1.1.1.1.1.1.0
  instance_class-known h (object_value k) p a = object_class-known h k a
  instance_class-known h (array_value k) p a = kernel.1.1.1.1.1.1.1.0
  instance_class-known h (closure_value k) p a = kernel.1.1.1.1.1.1.1.1.0
  instance_class-known h transcript_value p a = kernel.1.1.1.1.1.1.1.1.1.1.0

  -- an argument
  argument-known : (c : Call) (k : ℕ) → KnownCall c → KnownValue Class (argument c k)
  argument-known c k h = all-get_or (KnownValue Class) c.arguments k nil_value tt h.1

  -- by a condition
  either : (b : Bool) (x y : PrimResult) → KnownResult x → KnownResult y → KnownResult (if b then x else y)
  either true x y p q = p
  either false x y p q = q

  -- where there may be a thing, and else a fault
  where_there : {A : Type 0} (P : A → Type 0) (o : Option A) (go : A → PrimResult) (x : PrimResult) → KnownResult x → OptionNames P o → ((a : A) → P a → KnownResult (go a)) → KnownResult (option_map_or go o x)
  where_there P (Some a) go x p q h = h a q
  where_there P None go x p q h = p

  -- a thing of the right kind, of which something is known
  demanded_known : {A : Type 0} (P : A → Type 0) (c : Call) (o : Option A) (go : A → PrimResult) → OptionNames P o → ((a : A) → P a → KnownResult (go a)) → KnownResult (demands c o go)
  demanded_known P c o go q h = where_there P o go (faults (bad_argument c.number)) tt q h

  -- a thing of the right kind
  demanded : {A : Type 0} (c : Call) (o : Option A) (go : A → PrimResult) → ((a : A) → KnownResult (go a)) → KnownResult (demands c o go)
  demanded c (Some a) go h = h a
  demanded c None go h = tt

  -- a thing that is there
  there : {A : Type 0} (P : A → Type 0) (o : Option A) (go : A → PrimResult) → OptionNames P o → ((a : A) → P a → KnownResult (go a)) → KnownResult (within o go)
  there P o go q h = where_there P o go _ tt q h

  -- true or false
  truth-known : (b : Bool) → KnownValue Class (truth b)
  truth-known true = tt
  truth-known false = tt

  true-or-false : (b : Bool) → KnownValue Class (if b then true_value else false_value)
  true-or-false true = tt
  true-or-false false = tt

  -- items
  long : (n : ℕ) (r : PrimResult) → KnownResult r → KnownResult (of_length n r)
  long n r h = either (nat_lt 65535 n) _ r tt h

  bytes : (c : Call) (kind : List ℕ → Value) (t : List ℕ) → KnownCall c → ((u : List ℕ) → KnownValue Class (kind u)) → KnownResult (makes_bytes c kind t)
  bytes c kind t k p = long (length t) (answers (length t) None (kind t) c.heap) (p t, k.2)

  string : (c : Call) (t : List ℕ) → KnownCall c → KnownResult (makes_bytes c string_value t)
  string c t k = bytes c string_value t k (λ u. tt)

  -- one more array
  more_arrays : (h : Heap) (vs : List Value) → KnownHeap Class h → KnownValues Class vs → KnownHeap Class (with_array h vs)
  more_arrays h vs a p = (a.0, all-append (KnownValues Class) h.arrays (vs ∷ []) a.1 (p, tt))

  array : (c : Call) (vs : List Value) → KnownCall c → KnownValues Class vs → KnownResult (makes_array c vs)
  array c vs k p = long (length vs) (answers (length vs) None (array_value (length c.heap.arrays)) (with_array c.heap vs)) (tt, more_arrays c.heap vs k.2 p)

  -- one more object
  more_objects : (c : Call) (o : Object) → KnownCall c → KnownObject Class o → KnownResult (answers 0 None (object_value (length c.heap.objects)) (with_object c.heap o))
  more_objects c o k p = (tt, (all-append (KnownObject Class) c.heap.objects (o ∷ []) k.2.0 (p, tt), k.2.1))

  -- integers
  integer : (c : Call) (z : ℤ) → KnownCall c → KnownResult (answers_integer c z)
  integer c z k = by (fitting z)
    where
      by : (o : Option ℤ) → KnownResult (option_map_or (λ x. at_once c (int_value x)) o (faults overflow))
      by (Some x) = (tt, k.2)
      by None = tt

  integers : (c : Call) (go : ℤ → ℤ → PrimResult) → ((x y : ℤ) → KnownResult (go x y)) → KnownResult (two_integers c go)
  integers c go h = demanded c (as_integer c.receiver) _ (λ x. demanded c (as_integer (argument c 0)) (go x) (λ y. h x y))

  divided : (y : ℤ) (r : PrimResult) → KnownResult r → KnownResult (divisor y r)
  divided y r h = either (is_zero y) _ r tt h

  -- a class that a value is
  class_value-known : (v : Value) → KnownValue Class v → OptionNames Class (as_class v)
  class_value-known nil_value p = tt
  class_value-known true_value p = tt
  class_value-known false_value p = tt
  class_value-known (int_value z) p = tt
  class_value-known (char_value b) p = tt
  class_value-known (string_value t) p = tt
  class_value-known (symbol_value t) p = tt
  class_value-known (class_value c) p = p
  class_value-known (object_value k) p = tt
  class_value-known (array_value k) p = tt
  class_value-known (closure_value k) p = tt
  class_value-known transcript_value p = tt

  -- the values among the items of what has items
  abbrev KnownItems : Sequence → Type 0
  KnownItems (of_bytes t) = Unit {0}
  KnownItems (of_values vs) = KnownValues Class vs

  sequence-known : (h : Heap) (v : Value) → KnownHeap Class h → OptionNames KnownItems (as_sequence h v)
  sequence-known h nil_value a = tt
  sequence-known h true_value a = tt
  sequence-known h false_value a = tt
  sequence-known h (int_value z) a = tt
  sequence-known h (char_value b) a = tt
  sequence-known h (string_value t) a = tt
  sequence-known h (symbol_value t) a = tt
  sequence-known h (class_value c) a = tt
  sequence-known h (object_value k) a = tt
  sequence-known h (array_value k) a = elements-known Class h k a
  sequence-known h (closure_value k) a = tt
  sequence-known h transcript_value a = tt

  -- the items of the receiver
  items : (c : Call) (go : Sequence → PrimResult) → KnownCall c → ((q : Sequence) → KnownItems q → KnownResult (go q)) → KnownResult (with_items c go)
  items c go k h = demanded_known KnownItems c (as_sequence c.heap c.receiver) go (sequence-known c.heap c.receiver k.2) h

  joining : (c : Call) (q r : Sequence) → KnownCall c → KnownItems q → KnownItems r → KnownResult (joined c q r)
  joining c (of_bytes s) (of_bytes t) k p q = string c (s ++ t) k
  joining c (of_values vs) (of_values ws) k p q = array c (vs ++ ws) k (all-append (KnownValue Class) vs ws p q)
  joining c (of_bytes s) (of_values ws) k p q = tt
  joining c (of_values vs) (of_bytes t) k p q = tt

  -- the item of a number
  item-known : (vs : List Value) (z : ℤ) → KnownValues Class vs → OptionNames (KnownValue Class) (item_at vs z)
  item-known vs (pos zero) a = tt
  item-known vs (pos (suc k)) a = all-get (KnownValue Class) vs k a
  item-known vs (negsuc k) a = tt

  value_at-known : (q : Sequence) (z : ℤ) → KnownItems q → OptionNames (KnownValue Class) (value_at q z)
  value_at-known (of_bytes t) z p = by (item_at t z)
    where
      by : (o : Option ℕ) → OptionNames (KnownValue Class) (option_map_or (λ b. Some (char_value b)) o None)
      by (Some b) = tt
      by None = tt
  value_at-known (of_values vs) z p = item-known vs z p

  -- some of the items
  between-known : (vs : List Value) (a b : ℤ) → KnownValues Class vs → OptionNames (KnownValues Class) (items_between vs a b)
  between-known vs a b p = by (int_eq b (a -ℤ pos 1)) (int_le (pos 1) a && int_le a b && int_le b (pos (length vs)))
    where
      by : (x y : Bool) → OptionNames (KnownValues Class) (if x then Some [] else if y then Some (take (nat_abs (b -ℤ a) + 1) (drop (place_of a) vs)) else None)
      by true y = tt
      by false true = all-take (KnownValue Class) (nat_abs (b -ℤ a) + 1) (drop (place_of a) vs) (all-drop (KnownValue Class) (place_of a) vs p)
      by false false = tt

  part : (c : Call) (q : Sequence) (a b : ℤ) → KnownCall c → KnownItems q → KnownResult (part_of c q a b)
  part c (of_bytes t) a b k p = by (items_between t a b)
    where
      by : (o : Option (List ℕ)) → KnownResult (within o (λ u. makes_bytes c string_value u))
      by (Some u) = string c u k
      by None = tt
  part c (of_values vs) a b k p = there (KnownValues Class) (items_between vs a b) _ (between-known vs a b p) (λ us q. array c us k q)

  -- an item that is stored
  storing : (c : Call) (k : ℕ) (z : ℤ) → KnownCall c → KnownResult (answers 0 None (argument c 1) (with_item c.heap k z (argument c 1)))
  storing c k z h =
      let v = argument-known c 1 h in
      (v, (h.2.0, all-set (KnownValues Class) c.heap.arrays k _ (all-set (KnownValue Class) (elements c.heap k) (place_of z) (argument c 1) v (elements-known Class c.heap k h.2)) h.2.1))

  copying : (c : Call) (v : Value) → KnownCall c → KnownValue Class v → KnownResult (copy_of c v)
  copying c (object_value k) h p = where_there (KnownObject Class) (slice_get c.heap.objects k) (λ o. answers 0 None (object_value (length c.heap.objects)) (with_object c.heap o)) (at_once c (object_value k)) (tt, h.2) (all-get (KnownObject Class) c.heap.objects k h.2.0) (λ o q. more_objects c o h q)
  copying c (array_value k) h p = array c (elements c.heap k) h (elements-known Class c.heap k h.2)
  copying c nil_value h p = (tt, h.2)
  copying c true_value h p = (tt, h.2)
  copying c false_value h p = (tt, h.2)
  copying c (int_value z) h p = (tt, h.2)
  copying c (char_value b) h p = (tt, h.2)
  copying c (string_value t) h p = (tt, h.2)
  copying c (symbol_value t) h p = (tt, h.2)
  copying c (class_value d) h p = (p, h.2)
  copying c (closure_value k) h p = (tt, h.2)
  copying c transcript_value h p = (tt, h.2)

  instance : (c : Call) (d : Name) → KnownCall c → Class d → KnownResult (instance_of c d)
  instance c d k p =
      either (text_eq d (codes "Array")) (makes_array c []) _ (array c [] k tt)
      (either (text_eq d (codes "String")) (at_once c (string_value [])) _ (tt, k.2) (either (list_any (text_eq d) value_classes) (faults (bad_argument c.number)) (new_object c d) tt (more_objects c (record { class = d; fields = [] }) k (p, tt))))

  entering : (c : Call) → KnownResult (enters_closure c)
  entering c = demanded c (as_closure c.receiver) _ (λ k. either (c.arity k == length c.arguments) (enters k) (faults (wrong_arity (length c.arguments))) tt tt)

  -- anything that there may be
  anything : {A : Type 0} (o : Option A) → OptionNames (λ a. Unit {0}) o
  anything (Some a) = tt
  anything None = tt

  -- a primitive comes to what is known
  abbrev IsKnown : ℕ × (Call → PrimResult) → Type 0
  IsKnown row = (c : Call) → KnownCall c → KnownResult (row.1 c)

  -- each row does
  rows-known : AllByRecursion IsKnown rows
  rows-known = (
    (λ c k. (truth-known _, k.2)),
    (
      (λ c k. either (is_meta c.receiver) (faults reflective) (at_once c (class_value (class_name_of c.heap c.receiver))) tt (class-known c.heap c.receiver k.0 k.2, k.2)),
      (
        (λ c k. demanded c (as_class (argument c 0)) _ (λ d. (true-or-false _, k.2))),
        (
          (λ c k. copying c c.receiver k k.0),
          (
            (λ c k. demanded c (as_bytes (argument c 0)) _ (λ t. tt)),
            (
              (λ c k. tt),
              (
                (λ c k. demanded_known Class c (as_class c.receiver) _ (class_value-known c.receiver k.0) (λ d p. instance c d k p)),
                (
                  (λ c k. integers c _ (λ x y. integer c (x +ℤ y) k)),
                  (
                    (λ c k. integers c _ (λ x y. integer c (x -ℤ y) k)),
                    (
                      (λ c k. integers c _ (λ x y. integer c (x *ℤ y) k)),
                      (
                        (λ c k. integers c _ (λ x y. divided y _ (integer c (floor_quotient x y) k))),
                        (
                          (λ c k. integers c _ (λ x y. divided y _ (integer c (floor_remainder x y) k))),
                          (
                            (λ c k. integers c _ (λ x y. divided y _ (either (is_zero (floor_remainder x y)) (answers_integer c (floor_quotient x y)) (faults unsupported) (integer c (floor_quotient x y) k) tt))),
                            (
                              (λ c k. integers c _ (λ x y. (truth-known (int_lt x y), k.2))),
                              (
                                (λ c k. integers c _ (λ x y. (tt, k.2))),
                                (
                                  (λ c k. integers c _ (λ x y. (tt, k.2))),
                                  (
                                    (λ c k. integers c _ (λ x y. integer c (shifted x y) k)),
                                    (
                                      (λ c k. demanded c (as_integer c.receiver) _ (λ x. string c (signed_decimal x) k)),
                                      (
                                        (λ c k. demanded c (as_integer c.receiver) _ (λ x. demanded c (byte_of x) _ (λ b. (tt, k.2)))),
                                        (
                                          (λ c k. items c _ k (λ q p. (tt, k.2))),
                                          (
                                            (λ c k. items c _ k (λ q p. demanded c (as_integer (argument c 0)) _ (λ z. there (KnownValue Class) (value_at q z) _ (value_at-known q z p) (λ v h. (h, k.2))))),
                                            (
                                              (λ c k. demanded c (as_array c.receiver) _ (λ n. demanded c (as_integer (argument c 0)) _ (λ z. there (λ v. Unit {0}) (item_at (elements c.heap n) z) _ (anything (item_at (elements c.heap n) z)) (λ old h. storing c n z k)))),
                                              (
                                                (λ c k. items c _ k (λ q p. demanded_known KnownItems c (as_sequence c.heap (argument c 0)) _ (sequence-known c.heap (argument c 0) k.2) (λ r h. joining c q r k p h))),
                                                (
                                                  (λ c k. items c _ k (λ q p. demanded c (as_integer (argument c 0)) _ (λ a. demanded c (as_integer (argument c 1)) _ (λ b. part c q a b k p)))),
                                                  (
                                                    (λ c k. demanded c (as_bytes c.receiver) _ (λ s. demanded c (as_bytes (argument c 0)) _ (λ t. (truth-known (is_before s t), k.2)))),
                                                    (
                                                      (λ c k. demanded c (as_string c.receiver) _ (λ t. bytes c symbol_value t k (λ u. tt))),
                                                      (
                                                        (λ c k. demanded c (as_string c.receiver) _ (λ t. string c (string_text t) k)),
                                                        (
                                                          (λ c k. demanded c (as_symbol c.receiver) _ (λ t. string c t k)),
                                                          (
                                                            (λ c k. demanded c (as_symbol c.receiver) _ (λ t. string c (symbol_text t) k)),
                                                            (
                                                              (λ c k. demanded c (as_array_class c.receiver) _ (λ d. demanded c (as_integer (argument c 0)) _ (λ z. demanded c (length_of z) _ (λ n. long n _ (tt, more_arrays c.heap (replicate n nil_value) k.2 (all-replicate (KnownValue Class) n nil_value tt)))))),
                                                              (
                                                                (λ c k. demanded c (as_char c.receiver) _ (λ b. (tt, k.2))),
                                                                (
                                                                  (λ c k. demanded c (as_char c.receiver) _ (λ b. string c (b ∷ []) k)),
                                                                  (
                                                                    (λ c k. demanded c (as_char c.receiver) _ (λ b. string c (char_text b) k)),
                                                                    (
                                                                      (λ c k. entering c),
                                                                      (
                                                                        (λ c k. entering c),
                                                                        (
                                                                          (λ c k. entering c),
                                                                          (
                                                                            (λ c k. entering c),
                                                                            (
                                                                              (λ c k. demanded c (as_closure c.receiver) _ (λ n. (tt, k.2))),
                                                                              (
                                                                                (λ c k. demanded c (as_transcript c.receiver) _ (λ w. demanded c (as_bytes (argument c 0)) _ (λ t. (k.0, k.2)))),
                                                                                ((λ c k. demanded c (as_transcript c.receiver) _ (λ w. (k.0, k.2))), tt),
                                                                              ),
                                                                            ),
                                                                          ),
                                                                        ),
                                                                      ),
                                                                    ),
                                                                  ),
                                                                ),
                                                              ),
                                                            ),
                                                          ),
                                                        ),
                                                      ),
                                                    ),
                                                  ),
                                                ),
                                              ),
                                            ),
                                          ),
                                        ),
                                      ),
                                    ),
                                  ),
                                ),
                              ),
                            ),
                          ),
                        ),
                      ),
                    ),
                  ),
                ),
              ),
            ),
          ),
        ),
      ),
    ),
  )

  -- the row that is found does
  found-known : (c : Call) (xs : List (ℕ × (Call → PrimResult))) → AllByRecursion IsKnown xs → KnownCall c → KnownResult (option_map_or (λ row. row.1 c) (find (λ row. row.0 == c.number) xs) (faults (bad_argument c.number)))
  found-known c [] all k = tt
  found-known c (x ∷ xs) all k = by (x.0 == c.number) (found-known c xs all.1 k)
    where
      by : (b : Bool) → KnownResult (option_map_or (λ row. row.1 c) (find (λ row. row.0 == c.number) xs) (faults (bad_argument c.number))) →
          KnownResult (option_map_or (λ row. row.1 c) (cond b (Some x) (find (λ row. row.0 == c.number) xs)) (faults (bad_argument c.number)))
      by true ih = all.0 c k
      by false ih = ih

  -- each primitive comes to what is known
  pub primitive-known : (c : Call) → KnownCall c → KnownResult (primitive c)
  unfolding primitive
  primitive-known c k = found-known c rows rows-known k

  module _ (before after : List (ClassOf Name)) (kinds : (c d : Name) → Class c → Class d → is_on_chain after d c ≡ is_on_chain before d c) where
    -- the same call in another image
    abbrev pub over : List (ClassOf Name) → Call → Call
    over classes c = record c { classes = classes }

    -- a primitive comes to the same
    abbrev IsSame : ℕ × (Call → PrimResult) → Type 0
    IsSame row = (c : Call) → KnownCall c → row.1 (over after c) ≡ row.1 (over before c)

    -- on the chain of the receiver's class
    is_kind_of-same : IsSame (3, is_kind_of)
    is_kind_of-same c k = by (as_class (argument c 0)) (class_value-known (argument c 0) (argument-known c 0 k))
      where
        by : (o : Option Name) → OptionNames Class o → demands c o (λ d. at_once c (is_on_chain after d (instance_class c.heap c.receiver))) ≡ demands c o (λ d. at_once c (is_on_chain before d (instance_class c.heap c.receiver)))
        by (Some d) p = ap (λ v. at_once c v) (kinds (instance_class c.heap c.receiver) d (instance_class-known c.heap c.receiver k.0 k.2) p)
        by None p = refl

    -- each row does
    rows-same : AllByRecursion IsSame rows
    rows-same = ((λ c k. refl), ((λ c k. refl), (is_kind_of-same, ((λ c k. refl), ((λ c k. refl), ((λ c k. refl), ((λ c k. refl), ((λ c k. refl), ((λ c k. refl), ((λ c k. refl), ((λ c k. refl), ((λ c k. refl), ((λ c k. refl), ((λ c k. refl), ((λ c k. refl), ((λ c k. refl), ((λ c k. refl), ((λ c k. refl), ((λ c k. refl), ((λ c k. refl), ((λ c k. refl), ((λ c k. refl), ((λ c k. refl), ((λ c k. refl), ((λ c k. refl), ((λ c k. refl), ((λ c k. refl), ((λ c k. refl), ((λ c k. refl), ((λ c k. refl), ((λ c k. refl), ((λ c k. refl), ((λ c k. refl), ((λ c k. refl), ((λ c k. refl), ((λ c k. refl), ((λ c k. refl), ((λ c k. refl), ((λ c k. refl), ((λ c k. refl), tt))))))))))))))))))))))))))))))))))))))))

    -- the row that is found does
    found-same : (c : Call) (xs : List (ℕ × (Call → PrimResult))) → AllByRecursion IsSame xs → KnownCall c →
        option_map_or (λ row. row.1 (over after c)) (find (λ row. row.0 == c.number) xs) (faults (bad_argument c.number)) ≡ option_map_or (λ row. row.1 (over before c)) (find (λ row. row.0 == c.number) xs) (faults (bad_argument c.number))
    found-same c [] all k = refl
    found-same c (x ∷ xs) all k = by (x.0 == c.number) (found-same c xs all.1 k)
      where
        by : (b : Bool) → option_map_or (λ row. row.1 (over after c)) (find (λ row. row.0 == c.number) xs) (faults (bad_argument c.number)) ≡ option_map_or (λ row. row.1 (over before c)) (find (λ row. row.0 == c.number) xs) (faults (bad_argument c.number)) →
            option_map_or (λ row. row.1 (over after c)) (cond b (Some x) (find (λ row. row.0 == c.number) xs)) (faults (bad_argument c.number)) ≡ option_map_or (λ row. row.1 (over before c)) (cond b (Some x) (find (λ row. row.0 == c.number) xs)) (faults (bad_argument c.number))
        by true ih = all.0 c k
        by false ih = ih

    -- each primitive comes to the same
    pub primitive-same : (c : Call) → KnownCall c → primitive (over after c) ≡ primitive (over before c)
    unfolding primitive
    primitive-same c k = found-same c rows rows-same k
