-- Primitives with mapped names.
use Rattle.std.proofs.Common.{◌≡◌, ℕ, zero, suc, ◌+◌, List, [], ◌∷◌, ◌++◌, length, Option, Some, None, refl, sym, ap, ◌∙◌}
use Rattle.std.specs.Prelude.{Bool, true, false, ◌==◌, ◌&&◌, cond, if◌then◌else◌, nat_lt, nat_abs, int_le, int_lt, map, find, set, take, drop, replicate, slice_get, option_map, codes, ℤ, pos, negsuc, ◌+ℤ◌, ◌-ℤ◌, ◌*ℤ◌}
use Rattle.std.specs.Int.{int_bit_and, int_bit_or, w64}
use Rattle.std.specs.Fmt.{signed_decimal}
use Rattle.std.specs.Ordering.{int_eq}
use Rattle.std.specs.List.{AllByRecursion, list_any}
use Rattle.std.specs.Option.{option_map_or}
use Rattle.std.proofs.lemmas.List.{map-append, map-set, take-map, drop-map}
use Rattle.std.proofs.lemmas.Option.{slice_get-map}
use Rattle.image_model.proofs.Lists.{length-map}
use Rattle.rb_base.specs.Names.{text_eq}
use Rattle.image_model.specs.Image.{ClassOf}
use Rattle.image_model.specs.Chain.{chain}
use Rattle.run_model.specs.Values.{Name, Value, nil_value, true_value, false_value, int_value, char_value, string_value, symbol_value, class_value, object_value, array_value, shown, printed, unsupported, user_error, overflow, bad_argument, too_long, reflective, wrong_arity}
use Rattle.run_model.specs.Store.{Object, Heap, with_array, with_object}
use Rattle.run_model.specs.Numbers.{is_zero, fitting, floor_quotient, floor_remainder, shifted}
use Rattle.run_model.specs.Views.{elements, class_name_of, is_meta, same_value, view_of, string_text, symbol_text, char_text}
use Rattle.run_model.specs.Calls.{Call, PrimResult, answers, faults, enters, argument, at_once, demands, of_length, makes_bytes, makes_array, answers_integer, answers_truth, as_integer, as_bytes, as_class, Sequence, of_bytes, of_values, as_sequence}
use Rattle.run_model.specs.ObjectPrimitives.{is_same, gives_class, instance_class, is_on_chain, is_kind_of, copy_of, copies, raises_error, is_reflective, value_classes, instance_of, gives_instance, enters_closure, counts_parameters, shows, printed_length, prints}
use Rattle.run_model.specs.IntegerPrimitives.{two_integers, divisor, adds, subtracts, multiplies, divides_down, gives_remainder, divides_exactly, is_less, bits_in_both, bits_in_any, shifts, prints_integer, byte_of, gives_character, gives_byte, string_of_character, prints_character}
use Rattle.run_model.specs.SequencePrimitives.{item_at, place_of, items_between, within, with_items, items_count, gives_length, value_at, gives_item, with_item, stores_item, joined, joins, part_of, gives_part, is_before, is_text_before, symbol_of_string, string_of_symbol, prints_string, prints_symbol, as_array_class, length_of, gives_array}
use Rattle.run_model.specs.Primitives.{rows, primitive}
use Rattle.mapped_model.specs.NameMaps.{NameMaps, IsOneToOne, KeepsWords}
use Rattle.mapped_model.specs.MappedImages.{mapped_class}
use Rattle.mapped_model.specs.MappedRuns.{mapped_event, mapped_error}
use Rattle.mapped_model.proofs.Tests.{mapped-word, words-mapped, get_or-after}
use Rattle.mapped_model.proofs.LookupsMapped.{on-after}
use Rattle.mapped_model.proofs.ValuesMapped.{mapped_value, mapped_object, mapped_heap, mapped_sequence, integer-after, char-after, string-after, symbol-after, bytes-after, array-after, closure-after, transcript-after, as_class-after, meta-after, elements-after, sequence-after, with_array-after, with_object-after, printed-after, same-after, class_name-after, instance_class-after, view-after}

module _ (f : NameMaps) where
  -- what a primitive is given
  abbrev pub mapped_call : Call → Call
  mapped_call c = record { number = c.number; receiver = mapped_value f c.receiver; arguments = map (mapped_value f) c.arguments; heap = mapped_heap f c.heap; arity = c.arity; classes = map (mapped_class f) c.classes }

  -- what a primitive comes to
  abbrev pub mapped_result : PrimResult → PrimResult
  mapped_result (answers n told v h) = answers n (option_map (mapped_event f) told) (mapped_value f v) (mapped_heap f h)
  mapped_result (faults e) = faults (mapped_error f e)
  mapped_result (enters k) = enters k

  -- an argument
  argument-after : (c : Call) (k : ℕ) → argument (mapped_call c) k ≡ mapped_value f (argument c k)
  argument-after c k = get_or-after (mapped_value f) nil_value c.arguments k

  -- by a condition
  either : (b : Bool) (x y x' y' : PrimResult) → x' ≡ mapped_result x → y' ≡ mapped_result y → (if b then x' else y') ≡ mapped_result (if b then x else y)
  either true x y x' y' p q = p
  either false x y x' y' p q = q

  -- going on with a thing that there may be
  demands-after : {A B : Type 0} (g : A → B) (c : Call) (o : Option A) (o' : Option B) (go : A → PrimResult) (go' : B → PrimResult) → o' ≡ option_map g o → ((a : A) → go' (g a) ≡ mapped_result (go a)) → demands (mapped_call c) o' go' ≡ mapped_result (demands c o go)
  demands-after g c o o' go go' e h = ap (λ x. demands (mapped_call c) x go') e ∙ by o
    where
      by : (o : Option _) → demands (mapped_call c) (option_map g o) go' ≡ mapped_result (demands c o go)
      by (Some a) = h a
      by None = refl

  -- going on with the same thing
  demands-same : {A : Type 0} (c : Call) (o o' : Option A) (go go' : A → PrimResult) → o' ≡ o → ((a : A) → go' a ≡ mapped_result (go a)) → demands (mapped_call c) o' go' ≡ mapped_result (demands c o go)
  demands-same c o o' go go' e h = ap (λ x. demands (mapped_call c) x go') e ∙ by o
    where
      by : (o : Option _) → demands (mapped_call c) o go' ≡ mapped_result (demands c o go)
      by (Some a) = h a
      by None = refl

  -- an index that may be outside
  within-after : {A B : Type 0} (g : A → B) (o : Option A) (o' : Option B) (go : A → PrimResult) (go' : B → PrimResult) → o' ≡ option_map g o → ((a : A) → go' (g a) ≡ mapped_result (go a)) → within o' go' ≡ mapped_result (within o go)
  within-after g o o' go go' e h = ap (λ x. within x go') e ∙ by o
    where
      by : (o : Option _) → within (option_map g o) go' ≡ mapped_result (within o go)
      by (Some a) = h a
      by None = refl

  -- the integer that an argument is
  argument_integer : (c : Call) (k : ℕ) → as_integer (argument (mapped_call c) k) ≡ as_integer (argument c k)
  argument_integer c k = ap as_integer (argument-after c k) ∙ integer-after f (argument c k)

  -- the bytes that an argument is
  argument_bytes : (c : Call) (k : ℕ) → as_bytes (argument (mapped_call c) k) ≡ as_bytes (argument c k)
  argument_bytes c k = ap as_bytes (argument-after c k) ∙ bytes-after f (argument c k)

  -- receiver and argument as integers
  integers-after : (c : Call) (go go' : ℤ → ℤ → PrimResult) → ((x y : ℤ) → go' x y ≡ mapped_result (go x y)) → two_integers (mapped_call c) go' ≡ mapped_result (two_integers c go)
  integers-after c go go' h =
      demands-same c _ _ _ _ (integer-after f c.receiver) (λ x. demands-same c _ _ _ _ (argument_integer c 0) (λ y. h x y))

  -- an integer as an answer
  integer-answer : (c : Call) (z : ℤ) → answers_integer (mapped_call c) z ≡ mapped_result (answers_integer c z)
  integer-answer c z = by (fitting z)
    where
      by : (o : Option ℤ) → option_map_or (λ x. at_once (mapped_call c) (int_value x)) o (faults overflow) ≡ mapped_result (option_map_or (λ x. at_once c (int_value x)) o (faults overflow))
      by (Some x) = refl
      by None = refl

  -- true or false as an answer
  truth-answer : (c : Call) (b : Bool) → answers_truth (mapped_call c) b ≡ mapped_result (answers_truth c b)
  truth-answer c true = refl
  truth-answer c false = refl

  -- bytes as an answer
  bytes-answer : (c : Call) (kind : List ℕ → Value) (t : List ℕ) → ((u : List ℕ) → mapped_value f (kind u) ≡ kind u) → makes_bytes (mapped_call c) kind t ≡ mapped_result (makes_bytes c kind t)
  bytes-answer c kind t h = either (nat_lt 65535 (length t)) _ _ _ _ refl (ap (λ v. answers (length t) None v (mapped_heap f c.heap)) (sym (h t)))

  -- a string as an answer
  string-answer : (c : Call) (t : List ℕ) → makes_bytes (mapped_call c) string_value t ≡ mapped_result (makes_bytes c string_value t)
  string-answer c t = bytes-answer c string_value t (λ u. refl)

  -- an array as an answer
  array-answer : (c : Call) (vs : List Value) → makes_array (mapped_call c) (map (mapped_value f) vs) ≡ mapped_result (makes_array c vs)
  array-answer c vs =
      ap (λ n. of_length n (answers n None (array_value (length (map (map (mapped_value f)) c.heap.arrays))) (with_array (mapped_heap f c.heap) (map (mapped_value f) vs)))) (length-map (mapped_value f) vs)
      ∙ (λ i. of_length (length vs) (answers (length vs) None (array_value (length-map (map (mapped_value f)) c.heap.arrays i)) (with_array-after f c.heap vs i)))
      ∙ either (nat_lt 65535 (length vs)) (faults too_long) (answers (length vs) None (array_value (length c.heap.arrays)) (with_array c.heap vs)) _ _ refl refl

  -- what it is that a primitive comes to the same
  abbrev IsKept : (Call → PrimResult) → Type 0
  IsKept p = (c : Call) → p (mapped_call c) ≡ mapped_result (p c)

  divisor-after : (y : ℤ) (r r' : PrimResult) → r' ≡ mapped_result r → divisor y r' ≡ mapped_result (divisor y r)
  divisor-after y r r' e = either (is_zero y) _ _ _ _ refl e

  adds-kept : IsKept adds
  adds-kept c = integers-after c _ _ (λ x y. integer-answer c (x +ℤ y))

  subtracts-kept : IsKept subtracts
  subtracts-kept c = integers-after c _ _ (λ x y. integer-answer c (x -ℤ y))

  multiplies-kept : IsKept multiplies
  multiplies-kept c = integers-after c _ _ (λ x y. integer-answer c (x *ℤ y))

  divides_down-kept : IsKept divides_down
  divides_down-kept c = integers-after c _ _ (λ x y. divisor-after y _ _ (integer-answer c (floor_quotient x y)))

  gives_remainder-kept : IsKept gives_remainder
  gives_remainder-kept c = integers-after c _ _ (λ x y. divisor-after y _ _ (integer-answer c (floor_remainder x y)))

  divides_exactly-kept : IsKept divides_exactly
  divides_exactly-kept c = integers-after c _ _ (λ x y. divisor-after y _ _ (either (is_zero (floor_remainder x y)) (answers_integer c (floor_quotient x y)) (faults unsupported) _ _ (integer-answer c (floor_quotient x y)) refl))

  is_less-kept : IsKept is_less
  is_less-kept c = integers-after c _ _ (λ x y. truth-answer c (int_lt x y))

  bits_in_both-kept : IsKept bits_in_both
  bits_in_both-kept c = integers-after c (λ x y. at_once c (int_value (int_bit_and w64 x y))) (λ x y. at_once (mapped_call c) (int_value (int_bit_and w64 x y))) (λ x y. refl)

  bits_in_any-kept : IsKept bits_in_any
  bits_in_any-kept c = integers-after c (λ x y. at_once c (int_value (int_bit_or w64 x y))) (λ x y. at_once (mapped_call c) (int_value (int_bit_or w64 x y))) (λ x y. refl)

  shifts-kept : IsKept shifts
  shifts-kept c = integers-after c _ _ (λ x y. integer-answer c (shifted x y))

  prints_integer-kept : IsKept prints_integer
  prints_integer-kept c = demands-same c _ _ _ _ (integer-after f c.receiver) (λ x. string-answer c (signed_decimal x))

  gives_character-kept : IsKept gives_character
  gives_character-kept c = demands-same c _ _ _ _ (integer-after f c.receiver) (λ x. demands-same c (byte_of x) (byte_of x) (λ b. at_once c (char_value b)) (λ b. at_once (mapped_call c) (char_value b)) refl (λ b. refl))

  gives_byte-kept : IsKept gives_byte
  gives_byte-kept c = demands-same c _ _ (λ b. at_once c (int_value (pos b))) (λ b. at_once (mapped_call c) (int_value (pos b))) (char-after f c.receiver) (λ b. refl)

  string_of_character-kept : IsKept string_of_character
  string_of_character-kept c = demands-same c _ _ _ _ (char-after f c.receiver) (λ b. string-answer c (b ∷ []))

  prints_character-kept : IsKept prints_character
  prints_character-kept c = demands-same c _ _ _ _ (char-after f c.receiver) (λ b. string-answer c (char_text b))

  -- the items of the receiver
  items-after : (c : Call) (go go' : Sequence → PrimResult) → ((q : Sequence) → go' (mapped_sequence f q) ≡ mapped_result (go q)) → with_items (mapped_call c) go' ≡ mapped_result (with_items c go)
  items-after c go go' h = demands-after (mapped_sequence f) c _ _ _ _ (sequence-after f c.heap c.receiver) h

  count-after : (q : Sequence) → items_count (mapped_sequence f q) ≡ items_count q
  count-after (of_bytes t) = refl
  count-after (of_values vs) = length-map (mapped_value f) vs

  gives_length-kept : IsKept gives_length
  gives_length-kept c = items-after c _ _ (λ q. ap (λ n. at_once (mapped_call c) (int_value (pos n))) (count-after q))

  -- an item of mapped items
  item-after : (vs : List Value) (z : ℤ) → item_at (map (mapped_value f) vs) z ≡ option_map (mapped_value f) (item_at vs z)
  item-after vs (pos zero) = refl
  item-after vs (pos (suc k)) = slice_get-map (mapped_value f) vs k
  item-after vs (negsuc k) = refl

  value-after : (q : Sequence) (z : ℤ) → value_at (mapped_sequence f q) z ≡ option_map (mapped_value f) (value_at q z)
  value-after (of_bytes t) z = by (item_at t z)
    where
      by : (o : Option ℕ) → option_map_or (λ b. Some (char_value b)) o None ≡ option_map (mapped_value f) (option_map_or (λ b. Some (char_value b)) o None)
      by (Some b) = refl
      by None = refl
  value-after (of_values vs) z = item-after vs z

  gives_item-kept : IsKept gives_item
  gives_item-kept c = items-after c _ _ (λ q. demands-same c _ _ _ _ (argument_integer c 0) (λ z. within-after (mapped_value f) _ _ (λ v. at_once c v) (λ v. at_once (mapped_call c) v) (value-after q z) (λ v. refl)))

  with_item-after : (h : Heap) (k : ℕ) (z : ℤ) (v : Value) → with_item (mapped_heap f h) k z (mapped_value f v) ≡ mapped_heap f (with_item h k z v)
  with_item-after h k z v =
      ap (λ vs. record { objects = map (mapped_object f) h.objects; arrays = set (map (map (mapped_value f)) h.arrays) k (set vs (place_of z) (mapped_value f v)) }) (elements-after f h k)
      ∙ ap (λ vs. record { objects = map (mapped_object f) h.objects; arrays = set (map (map (mapped_value f)) h.arrays) k vs }) (sym (map-set (mapped_value f) (elements h k) (place_of z) v))
      ∙ ap (λ l. record { objects = map (mapped_object f) h.objects; arrays = l }) (sym (map-set (map (mapped_value f)) h.arrays k (set (elements h k) (place_of z) v)))

  stores_item-kept : IsKept stores_item
  stores_item-kept c =
      demands-same c _ _ _ _ (array-after f c.receiver)
      (λ k. demands-same c _ _ _ _ (argument_integer c 0)
      (λ z. within-after (mapped_value f) _ _ _ _ (ap (λ vs. item_at vs z) (elements-after f c.heap k) ∙ item-after (elements c.heap k) z)
      (λ old. ap (λ v. answers 0 None v (with_item (mapped_heap f c.heap) k z v)) (argument-after c 1) ∙ ap (answers 0 None (mapped_value f (argument c 1))) (with_item-after c.heap k z (argument c 1)))))

  joined-after : (c : Call) (q r : Sequence) → joined (mapped_call c) (mapped_sequence f q) (mapped_sequence f r) ≡ mapped_result (joined c q r)
  joined-after c (of_bytes s) (of_bytes t) = string-answer c (s ++ t)
  joined-after c (of_values vs) (of_values ws) = ap (makes_array (mapped_call c)) (sym (map-append (mapped_value f) vs ws)) ∙ array-answer c (vs ++ ws)
  joined-after c (of_bytes s) (of_values ws) = refl
  joined-after c (of_values vs) (of_bytes t) = refl

  joins-kept : IsKept joins
  joins-kept c = items-after c _ _ (λ q. demands-after (mapped_sequence f) c _ _ _ _ (ap (as_sequence (mapped_heap f c.heap)) (argument-after c 0) ∙ sequence-after f c.heap (argument c 0)) (λ r. joined-after c q r))

  -- a part of mapped items
  between-after : (vs : List Value) (a b : ℤ) → items_between (map (mapped_value f) vs) a b ≡ option_map (map (mapped_value f)) (items_between vs a b)
  between-after vs a b =
      (λ i. if int_eq b (a -ℤ pos 1) then Some [] else if int_le (pos 1) a && int_le a b && int_le b (pos (length-map (mapped_value f) vs i))
      then Some ((ap (take (nat_abs (b -ℤ a) + 1)) (drop-map (mapped_value f) (place_of a) vs) ∙ take-map (mapped_value f) (nat_abs (b -ℤ a) + 1) (drop (place_of a) vs)) i) else None)
      ∙ by (int_eq b (a -ℤ pos 1)) (int_le (pos 1) a && int_le a b && int_le b (pos (length vs)))
    where
      by : (x y : Bool) → (if x then Some [] else if y then Some (map (mapped_value f) (take (nat_abs (b -ℤ a) + 1) (drop (place_of a) vs))) else None)
          ≡ option_map (map (mapped_value f)) (if x then Some [] else if y then Some (take (nat_abs (b -ℤ a) + 1) (drop (place_of a) vs)) else None)
      by true y = refl
      by false true = refl
      by false false = refl

  part-after : (c : Call) (q : Sequence) (a b : ℤ) → part_of (mapped_call c) (mapped_sequence f q) a b ≡ mapped_result (part_of c q a b)
  part-after c (of_bytes t) a b = by (items_between t a b)
    where
      by : (o : Option (List ℕ)) → within o (λ u. makes_bytes (mapped_call c) string_value u) ≡ mapped_result (within o (λ u. makes_bytes c string_value u))
      by (Some u) = string-answer c u
      by None = refl
  part-after c (of_values vs) a b = within-after (map (mapped_value f)) _ _ _ _ (between-after vs a b) (λ us. array-answer c us)

  gives_part-kept : IsKept gives_part
  gives_part-kept c = items-after c _ _ (λ q. demands-same c _ _ _ _ (argument_integer c 0) (λ a. demands-same c _ _ _ _ (argument_integer c 1) (λ b. part-after c q a b)))

  is_text_before-kept : IsKept is_text_before
  is_text_before-kept c = demands-same c _ _ _ _ (bytes-after f c.receiver) (λ s. demands-same c _ _ _ _ (argument_bytes c 0) (λ t. truth-answer c (is_before s t)))

  symbol_of_string-kept : IsKept symbol_of_string
  symbol_of_string-kept c = demands-same c _ _ _ _ (string-after f c.receiver) (λ t. bytes-answer c symbol_value t (λ u. refl))

  string_of_symbol-kept : IsKept string_of_symbol
  string_of_symbol-kept c = demands-same c _ _ _ _ (symbol-after f c.receiver) (λ t. string-answer c t)

  prints_string-kept : IsKept prints_string
  prints_string-kept c = demands-same c _ _ _ _ (string-after f c.receiver) (λ t. string-answer c (string_text t))

  prints_symbol-kept : IsKept prints_symbol
  prints_symbol-kept c = demands-same c _ _ _ _ (symbol-after f c.receiver) (λ t. string-answer c (symbol_text t))

  raises_error-kept : IsKept raises_error
  raises_error-kept c = demands-same c _ _ (λ t. faults (user_error t)) (λ t. faults (user_error t)) (argument_bytes c 0) (λ t. refl)

  is_reflective-kept : IsKept is_reflective
  is_reflective-kept c = refl

  enters_closure-kept : IsKept enters_closure
  enters_closure-kept c =
      demands-same c _ _ _ _ (closure-after f c.receiver)
      (λ k. ap (λ n. if c.arity k == n then enters k else faults (wrong_arity n)) (length-map (mapped_value f) c.arguments) ∙ either (c.arity k == length c.arguments) (enters k) (faults (wrong_arity (length c.arguments))) _ _ refl refl)

  counts_parameters-kept : IsKept counts_parameters
  counts_parameters-kept c = demands-same c _ _ (λ k. at_once c (int_value (pos (c.arity k)))) (λ k. at_once (mapped_call c) (int_value (pos (c.arity k)))) (closure-after f c.receiver) (λ k. refl)

  shows-kept : IsKept shows
  shows-kept c = demands-same c _ _ _ _ (transcript-after f c.receiver) (λ w. demands-same c _ _ (λ t. answers (length t) (Some (shown t)) c.receiver c.heap) (λ t. answers (length t) (Some (shown t)) (mapped_value f c.receiver) (mapped_heap f c.heap)) (argument_bytes c 0) (λ t. refl))

  copied-after : (c : Call) (k : ℕ) (o : Option Object) →
      option_map_or (λ o. answers 0 None (object_value (length (map (mapped_object f) c.heap.objects))) (with_object (mapped_heap f c.heap) o)) (option_map (mapped_object f) o) (at_once (mapped_call c) (object_value k))
      ≡ mapped_result (option_map_or (λ o. answers 0 None (object_value (length c.heap.objects)) (with_object c.heap o)) o (at_once c (object_value k)))
  copied-after c k (Some o) = λ i. answers 0 None (object_value (length-map (mapped_object f) c.heap.objects i)) (with_object-after f c.heap o i)
  copied-after c k None = refl

  copy-after : (c : Call) (v : Value) → copy_of (mapped_call c) (mapped_value f v) ≡ mapped_result (copy_of c v)
  copy-after c (object_value k) =
      ap (λ o. option_map_or (λ o. answers 0 None (object_value (length (map (mapped_object f) c.heap.objects))) (with_object (mapped_heap f c.heap) o)) o (at_once (mapped_call c) (object_value k))) (slice_get-map (mapped_object f) c.heap.objects k)
      ∙ copied-after c k (slice_get c.heap.objects k)
  copy-after c (array_value k) = ap (makes_array (mapped_call c)) (elements-after f c.heap k) ∙ array-answer c (elements c.heap k)
  copy-after c (class_value d) = refl
  copy-after c v = refl

  copies-kept : IsKept copies
  copies-kept c = copy-after c c.receiver

  pub nils-after : (n : ℕ) → map (mapped_value f) (replicate n nil_value) ≡ replicate n nil_value
  nils-after zero = refl
  nils-after (suc n) = ap (λ l. nil_value ∷ l) (nils-after n)

  module _ (single : IsOneToOne f) (keeps : KeepsWords f) where
    is_same-kept : IsKept is_same
    is_same-kept c = ap (λ v. answers_truth (mapped_call c) (same_value (mapped_value f c.receiver) v)) (argument-after c 0) ∙ ap (answers_truth (mapped_call c)) (same-after f single keeps c.receiver (argument c 0)) ∙ truth-answer c (same_value c.receiver (argument c 0))

    gives_class-kept : IsKept gives_class
    gives_class-kept c =
        (λ i. if meta-after f c.receiver i then faults reflective else at_once (mapped_call c) (class_value (class_name-after f single keeps c.heap c.receiver i)))
        ∙ either (is_meta c.receiver) (faults reflective) (at_once c (class_value (class_name_of c.heap c.receiver))) _ _ refl refl

    chain-answer : (c : Call) (b : Bool) → at_once (mapped_call c) (if b then true_value else false_value) ≡ mapped_result (at_once c (if b then true_value else false_value))
    chain-answer c true = refl
    chain-answer c false = refl

    is_kind_of-kept : IsKept is_kind_of
    is_kind_of-kept c =
        demands-after f.class c _ _ _ _ (ap as_class (argument-after c 0) ∙ as_class-after f (argument c 0))
        (λ d. ap (λ n. at_once (mapped_call c) (is_on_chain (map (mapped_class f) c.classes) (f.class d) n)) (instance_class-after f single keeps c.heap c.receiver)
        ∙ ap (λ b. at_once (mapped_call c) (if b then true_value else false_value)) (on-after f single c.classes d (instance_class c.heap c.receiver)) ∙ chain-answer c (list_any (λ (k : ClassOf Name). text_eq d k.name) (chain text_eq c.classes (Some (instance_class c.heap c.receiver)))))

    instance-after : (c : Call) (d : Name) → instance_of (mapped_call c) (f.class d) ≡ mapped_result (instance_of c d)
    instance-after c d =
        (λ i. if mapped-word f.class single.class (codes "Array") keeps.classes.1.1.1.1.1.1.1.0 d i then makes_array (mapped_call c) []
        else if mapped-word f.class single.class (codes "String") keeps.classes.1.1.1.1.1.0 d i then at_once (mapped_call c) (string_value [])
        else if words-mapped f.class single.class value_classes keeps.classes d i then faults (bad_argument c.number)
        else answers 0 None (object_value (length-map (mapped_object f) c.heap.objects i)) (with_object-after f c.heap (record { class = d; fields = [] }) i))
        ∙ either (text_eq d (codes "Array")) _ _ _ _ (array-answer c [])
        (either (text_eq d (codes "String")) (at_once c (string_value [])) _ _ _ refl (either (list_any (text_eq d) value_classes) (faults (bad_argument c.number)) (answers 0 None (object_value (length c.heap.objects)) (with_object c.heap (record { class = d; fields = [] }))) _ _ refl refl))

    gives_instance-kept : IsKept gives_instance
    gives_instance-kept c = demands-after f.class c _ _ _ _ (as_class-after f c.receiver) (λ d. instance-after c d)

    prints-kept : IsKept prints
    prints-kept c =
        demands-same c _ _ _ _ (transcript-after f c.receiver)
        (λ w. ap (λ v. answers (printed_length (mapped_heap f c.heap) v) (Some (printed (view_of (mapped_heap f c.heap) v))) (mapped_value f c.receiver) (mapped_heap f c.heap)) (argument-after c 0)
        ∙ (λ i. answers (printed-after f c.heap (argument c 0) i) (Some (printed (view-after f single keeps c.heap (argument c 0) i))) (mapped_value f c.receiver) (mapped_heap f c.heap)))

    array_class-after : (v : Value) → as_array_class (mapped_value f v) ≡ option_map f.class (as_array_class v)
    array_class-after (class_value d) = ap (λ b. if b then Some (f.class d) else None) (mapped-word f.class single.class (codes "Array") keeps.classes.1.1.1.1.1.1.1.0 d) ∙ by (text_eq d (codes "Array"))
      where
        by : (b : Bool) → (if b then Some (f.class d) else None) ≡ option_map f.class (if b then Some d else None)
        by true = refl
        by false = refl
    array_class-after v = refl

    new_array-after : (c : Call) (n : ℕ) → of_length n (answers n None (array_value (length (map (map (mapped_value f)) c.heap.arrays))) (with_array (mapped_heap f c.heap) (replicate n nil_value))) ≡ mapped_result (of_length n (answers n None (array_value (length c.heap.arrays)) (with_array c.heap (replicate n nil_value))))
    new_array-after c n =
        (λ i. of_length n (answers n None (array_value (length-map (map (mapped_value f)) c.heap.arrays i)) ((ap (with_array (mapped_heap f c.heap)) (sym (nils-after n)) ∙ with_array-after f c.heap (replicate n nil_value)) i)))
        ∙ either (nat_lt 65535 n) (faults too_long) (answers n None (array_value (length c.heap.arrays)) (with_array c.heap (replicate n nil_value))) _ _ refl refl

    gives_array-kept : IsKept gives_array
    gives_array-kept c =
        demands-after f.class c _ _ _ _ (array_class-after c.receiver)
        (λ d. demands-same c _ _ _ _ (argument_integer c 0) (λ z. demands-same c (length_of z) (length_of z) _ _ refl (λ n. new_array-after c n)))

    -- a row that comes to the same
    abbrev IsKeptRow : ℕ × (Call → PrimResult) → Type 0
    IsKeptRow row = IsKept row.1

    -- the row that is found
    found-kept : (c : Call) (xs : List (ℕ × (Call → PrimResult))) → AllByRecursion IsKeptRow xs →
        option_map_or (λ row. row.1 (mapped_call c)) (find (λ row. row.0 == c.number) xs) (faults (bad_argument c.number)) ≡ mapped_result (option_map_or (λ row. row.1 c) (find (λ row. row.0 == c.number) xs) (faults (bad_argument c.number)))
    found-kept c [] all = refl
    found-kept c (x ∷ xs) all = by (x.0 == c.number) (found-kept c xs all.1)
      where
        by : (b : Bool) → option_map_or (λ row. row.1 (mapped_call c)) (find (λ row. row.0 == c.number) xs) (faults (bad_argument c.number)) ≡ mapped_result (option_map_or (λ row. row.1 c) (find (λ row. row.0 == c.number) xs) (faults (bad_argument c.number))) →
            option_map_or (λ row. row.1 (mapped_call c)) (cond b (Some x) (find (λ row. row.0 == c.number) xs)) (faults (bad_argument c.number)) ≡ mapped_result (option_map_or (λ row. row.1 c) (cond b (Some x) (find (λ row. row.0 == c.number) xs)) (faults (bad_argument c.number)))
        by true ih = all.0 c
        by false ih = ih

    -- each row comes to the same
    rows-kept : AllByRecursion IsKeptRow rows
    rows-kept = (is_same-kept, (gives_class-kept, (is_kind_of-kept, (copies-kept, (raises_error-kept, (is_reflective-kept, (gives_instance-kept, (adds-kept, (subtracts-kept, (multiplies-kept, (divides_down-kept, (gives_remainder-kept, (divides_exactly-kept, (is_less-kept, (bits_in_both-kept, (bits_in_any-kept, (shifts-kept, (prints_integer-kept, (gives_character-kept, (gives_length-kept, (gives_item-kept, (stores_item-kept, (joins-kept, (gives_part-kept, (is_text_before-kept, (symbol_of_string-kept, (prints_string-kept, (string_of_symbol-kept, (prints_symbol-kept, (gives_array-kept, (gives_byte-kept, (string_of_character-kept, (prints_character-kept, (enters_closure-kept, (enters_closure-kept, (enters_closure-kept, (enters_closure-kept, (counts_parameters-kept, (shows-kept, (prints-kept, tt))))))))))))))))))))))))))))))))))))))))

    -- a primitive comes to the same
    pub primitive-after : (c : Call) → primitive (mapped_call c) ≡ mapped_result (primitive c)
    unfolding primitive
    primitive-after c = found-kept c rows rows-kept
