-- Values, heaps and what is seen of values, with mapped names.
use Rattle.std.proofs.Common.{◌≡◌, ℕ, List, [], ◌∷◌, length, Option, Some, None, refl, sym, ap, ◌∙◌}
use Rattle.std.specs.Prelude.{map, slice_get, option_map, unwrap_or}
use Rattle.std.proofs.lemmas.List.{map-append}
use Rattle.std.proofs.lemmas.Option.{slice_get-map}
use Rattle.image_model.proofs.Lists.{length-map}
use Rattle.run_model.specs.Values.{Value, nil_value, true_value, false_value, int_value, char_value, string_value, symbol_value, class_value, object_value, array_value, closure_value, transcript_value, object_atom, array_atom, items, one}
use Rattle.run_model.specs.Store.{Object, Heap, with_array, with_object}
use Rattle.run_model.specs.Views.{class_of_object, elements, class_name_of, is_meta, same_value, atom_of, view_of}
use Rattle.run_model.specs.Calls.{as_integer, as_char, as_string, as_symbol, as_bytes, as_class, as_array, as_closure, as_transcript, Sequence, of_bytes, of_values, as_sequence}
use Rattle.run_model.specs.ObjectPrimitives.{instance_class, printed_length}
use Rattle.mapped_model.specs.NameMaps.{NameMaps, IsOneToOne, KeepsWords}
use Rattle.mapped_model.specs.MappedRuns.{mapped_atom, mapped_view}
use Rattle.mapped_model.proofs.Tests.{text-mapped}

module _ (f : NameMaps) where
  -- a value
  abbrev pub mapped_value : Value → Value
  mapped_value (class_value c) = class_value (f.class c)
  mapped_value v = v

  -- an object
  abbrev pub mapped_object : Object → Object
  mapped_object o = record { class = f.class o.class; fields = map (λ e. (f.instance (o.class, e.0), mapped_value e.1)) o.fields }

  -- a heap
  abbrev pub mapped_heap : Heap → Heap
  mapped_heap h = record { objects = map mapped_object h.objects; arrays = map (map mapped_value) h.arrays }

  -- a sequence
  abbrev pub mapped_sequence : Sequence → Sequence
  mapped_sequence (of_bytes t) = of_bytes t
  mapped_sequence (of_values vs) = of_values (map mapped_value vs)

  -- kinds of values
  pub integer-after : (v : Value) → as_integer (mapped_value v) ≡ as_integer v
  integer-after (class_value c) = refl
  integer-after v = refl

  pub char-after : (v : Value) → as_char (mapped_value v) ≡ as_char v
  char-after (class_value c) = refl
  char-after v = refl

  pub string-after : (v : Value) → as_string (mapped_value v) ≡ as_string v
  string-after (class_value c) = refl
  string-after v = refl

  pub symbol-after : (v : Value) → as_symbol (mapped_value v) ≡ as_symbol v
  symbol-after (class_value c) = refl
  symbol-after v = refl

  pub bytes-after : (v : Value) → as_bytes (mapped_value v) ≡ as_bytes v
  bytes-after (class_value c) = refl
  bytes-after v = refl

  pub array-after : (v : Value) → as_array (mapped_value v) ≡ as_array v
  array-after (class_value c) = refl
  array-after v = refl

  pub closure-after : (v : Value) → as_closure (mapped_value v) ≡ as_closure v
  closure-after (class_value c) = refl
  closure-after v = refl

  pub transcript-after : (v : Value) → as_transcript (mapped_value v) ≡ as_transcript v
  transcript-after (class_value c) = refl
  transcript-after v = refl

  pub as_class-after : (v : Value) → as_class (mapped_value v) ≡ option_map f.class (as_class v)
  as_class-after (class_value c) = refl
  as_class-after v = refl

  pub meta-after : (v : Value) → is_meta (mapped_value v) ≡ is_meta v
  meta-after (class_value c) = refl
  meta-after v = refl

  -- the elements of an array
  pub elements-after : (h : Heap) (k : ℕ) → elements (mapped_heap h) k ≡ map mapped_value (elements h k)
  elements-after h k = ap (λ o. unwrap_or o []) (slice_get-map (map mapped_value) h.arrays k) ∙ by (slice_get h.arrays k)
    where
      by : (o : Option (List Value)) → unwrap_or (option_map (map mapped_value) o) [] ≡ map mapped_value (unwrap_or o [])
      by (Some vs) = refl
      by None = refl

  -- the items of a value
  pub sequence-after : (h : Heap) (v : Value) → as_sequence (mapped_heap h) (mapped_value v) ≡ option_map mapped_sequence (as_sequence h v)
  sequence-after h (array_value k) = ap (λ vs. Some (of_values vs)) (elements-after h k)
  sequence-after h (class_value c) = refl
  sequence-after h v = refl

  -- one more array
  pub with_array-after : (h : Heap) (vs : List Value) → with_array (mapped_heap h) (map mapped_value vs) ≡ mapped_heap (with_array h vs)
  with_array-after h vs = ap (λ l. record { objects = map mapped_object h.objects; arrays = l }) (sym (map-append (map mapped_value) h.arrays (vs ∷ [])))

  -- one more object
  pub with_object-after : (h : Heap) (o : Object) → with_object (mapped_heap h) (mapped_object o) ≡ mapped_heap (with_object h o)
  with_object-after h o = ap (λ l. record { objects = l; arrays = map (map mapped_value) h.arrays }) (sym (map-append mapped_object h.objects (o ∷ [])))

  -- how much printing wants
  pub printed-after : (h : Heap) (v : Value) → printed_length (mapped_heap h) (mapped_value v) ≡ printed_length h v
  printed-after h (array_value k) = ap length (elements-after h k) ∙ length-map mapped_value (elements h k)
  printed-after h (class_value c) = refl
  printed-after h v = refl

  module _ (single : IsOneToOne f) (keeps : KeepsWords f) where
    -- whether two values are the same
    pub same-after : (v w : Value) → same_value (mapped_value v) (mapped_value w) ≡ same_value v w
    same-after (class_value c) (class_value d) = text-mapped f.class single.class c d
    same-after (class_value c) w = refl
    same-after nil_value (class_value d) = refl
    same-after nil_value w = refl
    same-after true_value (class_value d) = refl
    same-after true_value w = refl
    same-after false_value (class_value d) = refl
    same-after false_value w = refl
    same-after (int_value z) (class_value d) = refl
    same-after (int_value z) w = refl
    same-after (char_value b) (class_value d) = refl
    same-after (char_value b) w = refl
    same-after (string_value t) (class_value d) = refl
    same-after (string_value t) w = refl
    same-after (symbol_value t) (class_value d) = refl
    same-after (symbol_value t) w = refl
    same-after (object_value k) (class_value d) = refl
    same-after (object_value k) w = refl
    same-after (array_value k) (class_value d) = refl
    same-after (array_value k) w = refl
    same-after (closure_value k) (class_value d) = refl
    same-after (closure_value k) w = refl
    same-after transcript_value (class_value d) = refl
    same-after transcript_value w = refl

    -- the class of an object
    pub object_class-after : (h : Heap) (k : ℕ) → class_of_object (mapped_heap h) k ≡ f.class (class_of_object h k)
    object_class-after h k = ap (λ o. unwrap_or (option_map (λ (x : Object). x.class) o) []) (slice_get-map mapped_object h.objects k) ∙ by (slice_get h.objects k)
      where
        by : (o : Option Object) → unwrap_or (option_map (λ (x : Object). x.class) (option_map mapped_object o)) [] ≡ f.class (unwrap_or (option_map (λ (x : Object). x.class) o) [])
        by (Some o) = refl
        by None = sym keeps.nothing

    -- the class of a value
    pub class_name-after : (h : Heap) (v : Value) → class_name_of (mapped_heap h) (mapped_value v) ≡ f.class (class_name_of h v)
    class_name-after h nil_value = sym keeps.classes.0
    class_name-after h true_value = sym keeps.classes.1.0
    class_name-after h false_value = sym keeps.classes.1.1.0
    class_name-after h (int_value z) = sym keeps.classes.1.1.1.0
    class_name-after h (char_value b) = sym keeps.classes.1.1.1.1.0
    class_name-after h (string_value t) = sym keeps.classes.1.1.1.1.1.0
    class_name-after h (symbol_value t) = sym keeps.classes.1.1.1.1.1.1.0
    class_name-after h (class_value c) = refl
    class_name-after h (object_value k) = object_class-after h k
    class_name-after h (array_value k) = sym keeps.classes.1.1.1.1.1.1.1.0
    class_name-after h (closure_value k) = sym keeps.classes.1.1.1.1.1.1.1.1.0
    class_name-after h transcript_value = sym keeps.classes.1.1.1.1.1.1.1.1.1.1.0

    -- the class whose instance a value is
    pub instance_class-after : (h : Heap) (v : Value) → instance_class (mapped_heap h) (mapped_value v) ≡ f.class (instance_class h v)
    instance_class-after h (class_value c) = sym keeps.classes.1.1.1.1.1.1.1.1.1.0
    instance_class-after h nil_value = class_name-after h nil_value
    instance_class-after h true_value = class_name-after h true_value
    instance_class-after h false_value = class_name-after h false_value
    instance_class-after h (int_value z) = class_name-after h (int_value z)
    instance_class-after h (char_value b) = class_name-after h (char_value b)
    instance_class-after h (string_value t) = class_name-after h (string_value t)
    instance_class-after h (symbol_value t) = class_name-after h (symbol_value t)
    instance_class-after h (object_value k) = class_name-after h (object_value k)
    instance_class-after h (array_value k) = class_name-after h (array_value k)
    instance_class-after h (closure_value k) = class_name-after h (closure_value k)
    instance_class-after h transcript_value = class_name-after h transcript_value

    -- what is seen of a value in an array
    atom-after : (h : Heap) (v : Value) → atom_of (mapped_heap h) (mapped_value v) ≡ mapped_atom f (atom_of h v)
    atom-after h (object_value k) = ap object_atom (object_class-after h k)
    atom-after h (array_value k) = ap array_atom (ap length (elements-after h k) ∙ length-map mapped_value (elements h k))
    atom-after h (class_value c) = refl
    atom-after h v = refl

    -- what is seen of values
    atoms-after : (h : Heap) (vs : List Value) → map (atom_of (mapped_heap h)) (map mapped_value vs) ≡ map (mapped_atom f) (map (atom_of h) vs)
    atoms-after h [] = refl
    atoms-after h (v ∷ vs) = λ i. atom-after h v i ∷ atoms-after h vs i

    -- what is seen of a value
    pub view-after : (h : Heap) (v : Value) → view_of (mapped_heap h) (mapped_value v) ≡ mapped_view f (view_of h v)
    view-after h (array_value k) = ap (λ vs. items (map (atom_of (mapped_heap h)) vs)) (elements-after h k) ∙ ap items (atoms-after h (elements h k))
    view-after h (object_value k) = ap one (atom-after h (object_value k))
    view-after h (class_value c) = refl
    view-after h v = refl
