-- What is live, in slots of its own, is the same image.
use Rattle.std.proofs.Common.{◌≡◌, ℕ, ◌<◌, List, [], ◌∷◌, length, map, Option, None, Some, slice_get, option_map, refl, sym, ap, subst, ◌∙◌, arith}
use Rattle.std.specs.Option.{option_and_then}
use Rattle.std.proofs.lemmas.Option.{slice_get-map, slice_get_within}
use Rattle.image_model.specs.ImageNames.{ImageNames}
use Rattle.class_table.specs.declared.record.ClassRec.{ClassRec}
use Rattle.class_table.specs.declared.record.MethodRec.{MethodRec}
use Rattle.class_table.specs.Slots.{Slots}
use Rattle.class_table.specs.Valid.{IsLive, IsOrderly}
use Rattle.class_table.specs.View.{class_name, class_of, entry_of, live, number_image}
use Rattle.class_table.proofs.Live.{there, length-live, live-same}
use Rattle.image_laws.proofs.Orders.{stands-live}
use Rattle.image_strip.specs.Anew.{up_to, place_in, ArePlaces, placed_class, placed_method, anew, IsAnew}
use Rattle.image_strip.proofs.Places.{live-get, live-whole, below-up_to, up_to-below, order-up_to, one-place}

-- a list that is mapped twice
map-twice : {X Y Z : Type 0} (g : Y → Z) (f : X → Y) (xs : List X) → map g (map f xs) ≡ map (λ x. g (f x)) xs
map-twice g f [] = refl
map-twice g f (x ∷ xs) = ap (λ (zs : List _). g (f x) ∷ zs) (map-twice g f xs)

-- a value that is mapped stands for one
mapped-from : {X Y : Type 0} (f : X → Y) (o : Option X) (y : Y) → option_map f o ≡ Some y → (x : X) × (o ≡ Some x) × (f x ≡ y)
mapped-from f None y e = absurd (cc)
mapped-from f (Some x) y e = (x, refl, cc)

module _ (s : Slots) (o : IsOrderly s) (places : List ℕ) (are : ArePlaces s.class_order places) where
  abbrev t : Slots
  t = anew s places

  -- the class in a new slot and the method in one
  abbrev classes : List ClassRec
  classes = live s.classes s.class_order

  abbrev methods : List MethodRec
  methods = live s.methods s.method_order

  class-here : (p k : ℕ) → slice_get s.class_order p ≡ Some k → slice_get t.classes p ≡ option_map (placed_class places) (slice_get s.classes k)
  class-here p k e = slice_get-map (placed_class places) classes p ∙ ap (option_map (placed_class places)) (live-get s.classes s.class_order p k o.class_order.below e)

  method-here : (p k : ℕ) → slice_get s.method_order p ≡ Some k → slice_get t.methods p ≡ option_map (placed_method places) (slice_get s.methods k)
  method-here p k e = slice_get-map (placed_method places) methods p ∙ ap (option_map (placed_method places)) (live-get s.methods s.method_order p k o.method_order.below e)

  -- as many as are live
  length-map : {X Y : Type 0} (f : X → Y) (xs : List X) → length (map f xs) ≡ length xs
  length-map f [] = refl
  length-map f (x ∷ xs) = let rest = length-map f xs in omega (arith, rest)

  as-many-classes : length t.classes ≡ length s.class_order
  as-many-classes = length-map (placed_class places) classes ∙ length-live s.classes s.class_order o.class_order.below

  as-many-methods : length t.methods ≡ length s.method_order
  as-many-methods = length-map (placed_method places) methods ∙ length-live s.methods s.method_order o.method_order.below

  -- the name of the class in a new slot
  name-kept : (c : Option ClassRec) → option_map (λ (d : ClassRec). d.name) (option_map (placed_class places) c) ≡ option_map (λ (d : ClassRec). d.name) c
  name-kept None = refl
  name-kept (Some c) = refl

  name-here : (p k : ℕ) → slice_get s.class_order p ≡ Some k → class_name t.classes p ≡ class_name s.classes k
  name-here p k e = ap (option_map (λ (d : ClassRec). d.name)) (class-here p k e) ∙ name-kept (slice_get s.classes k)

  name-placed : (k : ℕ) → IsLive s.class_order k → class_name t.classes (place_in places k) ≡ class_name s.classes k
  name-placed k l = name-here (place_in places k) k (are k l)

  -- the class and the method that a record stands for
  class-same : (k : ℕ) (c : ClassRec) → IsLive s.class_order k → slice_get s.classes k ≡ Some c → class_of t.classes (placed_class places c) ≡ class_of s.classes c
  class-same k c l e = ap (λ (n : Option ℕ). record (class_of s.classes c) { superclass = n }) (by c.superclass refl)
    where
      by : (up : Option ℕ) → c.superclass ≡ up → option_and_then (class_name t.classes) (option_map (place_in places) up) ≡ option_and_then (class_name s.classes) up
      by None q = refl
      by (Some j) q = name-placed j (o.superclasses_live j k c l e q)

  method-same : (k : ℕ) (m : MethodRec) → IsLive s.method_order k → slice_get s.methods k ≡ Some m → entry_of t.classes (placed_method places m) ≡ entry_of s.classes m
  method-same k m l e = ap (λ (n : Option ℕ). record (entry_of s.classes m) { class = n }) (name-placed m.class (o.method_classes_live k m l e))

  pub image-anew : number_image t ≡ number_image s
  image-anew = λ i. record {
    classes = classes-anew i;
    methods = methods-anew i;
    doits = (number_image s).doits;
    heads = s.heads;
  }
    where
      classes-anew : map (class_of t.classes) (live t.classes (up_to (length t.classes))) ≡ map (class_of s.classes) (live s.classes s.class_order)
      classes-anew =
          ap (map (class_of t.classes)) (live-whole t.classes) ∙ map-twice (class_of t.classes) (placed_class places) classes
          ∙ live-same (λ (c : ClassRec). class_of t.classes (placed_class places c)) (class_of s.classes) s.classes s.classes s.class_order (λ k l.
          let at = there s.classes k (o.class_order.below k l) in
          ap (option_map (λ (c : ClassRec). class_of t.classes (placed_class places c))) at.1 ∙ ap Some (class-same k at.0 l at.1) ∙ sym (ap (option_map (class_of s.classes)) at.1))

      methods-anew : map (entry_of t.classes) (live t.methods (up_to (length t.methods))) ≡ map (entry_of s.classes) (live s.methods s.method_order)
      methods-anew =
          ap (map (entry_of t.classes)) (live-whole t.methods) ∙ map-twice (entry_of t.classes) (placed_method places) methods
          ∙ live-same (λ (m : MethodRec). entry_of t.classes (placed_method places m)) (entry_of s.classes) s.methods s.methods s.method_order (λ k l.
          let at = there s.methods k (o.method_order.below k l) in
          ap (option_map (λ (m : MethodRec). entry_of t.classes (placed_method places m))) at.1 ∙ ap Some (method-same k at.0 l at.1) ∙ sym (ap (option_map (entry_of s.classes)) at.1))

  -- the slot before of a new slot
  class-slot : (p : ℕ) → IsLive (up_to (length t.classes)) p → (k : ℕ) × (slice_get s.class_order p ≡ Some k)
  class-slot p l = let less = below-up_to (length t.classes) p l in there s.class_order p (subst (λ (n : ℕ). p < n) as-many-classes less)

  method-slot : (p : ℕ) → IsLive (up_to (length t.methods)) p → (k : ℕ) × (slice_get s.method_order p ≡ Some k)
  method-slot p l = let less = below-up_to (length t.methods) p l in there s.method_order p (subst (λ (n : ℕ). p < n) as-many-methods less)

  place-live : (k : ℕ) → IsLive s.class_order k → IsLive (up_to (length t.classes)) (place_in places k)
  place-live k l =
      let less = slice_get_within s.class_order (place_in places k) k (are k l) in
      up_to-below (length t.classes) (place_in places k) (subst (λ (n : ℕ). place_in places k < n) (sym as-many-classes) less)

  pub orderly-anew : IsOrderly t
  orderly-anew = record {
    names_distinct = o.names_distinct;
    names_known = subst (ImageNames (λ n. n < length s.names)) (sym image-anew) o.names_known;
    class_order = order-up_to (length t.classes);
    method_order = order-up_to (length t.methods);
    class_names_distinct = λ j k n lj lk ej ek.
        let a = class-slot j lj in
        let b = class-slot k lk in
        let same : a.0 ≡ b.0 = o.class_names_distinct a.0 b.0 n (stands-live a.0 s.class_order j a.1) (stands-live b.0 s.class_order k b.1) (sym (name-here j a.0 a.1) ∙ ej) (sym (name-here k b.0 b.1) ∙ ek) in
        one-place s.class_order j k b.0 o.class_order.distinct (a.1 ∙ ap Some same) b.1;
    superclasses_live = λ j k c l at up.
        let a = class-slot k l in
        let from = mapped-from (placed_class places) (slice_get s.classes a.0) c (sym (class-here k a.0 a.1) ∙ at) in
        let above = mapped-from (place_in places) (from.0).superclass j (ap (λ (d : ClassRec). d.superclass) from.2 ∙ up) in
        subst (IsLive (up_to (length t.classes))) above.2 (place-live above.0 (o.superclasses_live above.0 a.0 from.0 (stands-live a.0 s.class_order k a.1) from.1 above.1));
    method_classes_live = λ k m l at.
        let a = method-slot k l in
        let from = mapped-from (placed_method places) (slice_get s.methods a.0) m (sym (method-here k a.0 a.1) ∙ at) in
        subst (IsLive (up_to (length t.classes))) (ap (λ (d : MethodRec). d.class) from.2)
        (place-live (from.0).class (o.method_classes_live a.0 from.0 (stands-live a.0 s.method_order k a.1) from.1));
  }

-- slots that are made anew, with the names again
module _ (s t : Slots) (o : IsOrderly s) (made : IsAnew s t) where
  abbrev named : Slots
  named = record t { names = s.names }

  named-is : named ≡ anew s made.0
  named-is = ap (λ (u : Slots). record u { names = s.names }) made.2

  pub image-made : number_image named ≡ number_image s
  image-made = ap number_image named-is ∙ image-anew s o made.0 made.1

  pub orderly-made : IsOrderly named
  orderly-made = subst IsOrderly (sym named-is) (orderly-anew s o made.0 made.1)
