-- What is found among slots by texts is what the image over texts has.
use Rattle.std.proofs.Common.{◌≡◌, ℕ, zero, suc, ◌<◌, ◌≤◌, Bool, true, false, cond, ◌&&◌, nat_lt, List, [], ◌∷◌, length, map, find, unwrap_or, get_or, Option, Some, None, slice_get, option_map, refl, sym, ap, ◌∙◌, arith, true≢false}
use Rattle.std.specs.Prelude.{nat_eq, codes}
use Rattle.std.specs.Bool.{beq}
use Rattle.std.specs.List.{list_any, AllByRecursion, position_or_len}
use Rattle.std.specs.Option.{option_map_or, option_and_then, option_or}
use Rattle.std.proofs.lemmas.Bool.{ltb-false}
use Rattle.std.proofs.lemmas.Bool.Decides.{Decides-eqb}
use Rattle.std.proofs.lemmas.Slice.Eq.{slice_eq-Decides}
use Rattle.std.proofs.lemmas.List.Quantifiers.{position-Some}
use Rattle.std.proofs.lemmas.List.Sums.{fails_before_first}
use Rattle.std.proofs.lemmas.Option.{unwrap_or-slice_get}
use Rattle.rb_base.specs.Names.{text_eq, number_in, name_at}
use Rattle.image_model.specs.Image.{ClassOf, EntryOf, ImageOf, map_class, map_entry, map_image}
use Rattle.image_model.specs.ImageNames.{ClassNames, EntryNames}
use Rattle.image_model.specs.Words.{number_words, text_words}
use Rattle.image_model.specs.Upwards.{upwards, first_given}
use Rattle.image_model.specs.Chain.{class_named, class_of_name, superclass_of, chain_from}
use Rattle.image_model.specs.Lookup.{is_method, own_method, on_chain, as_object, lookup, super_lookup}
use Rattle.image_model.proofs.Changed.{class_of_name-map}
use Rattle.image_model.proofs.Tables.{KeepsWords-number_words}
use Rattle.image_model.proofs.UpwardsLemmas.{upwards-none}
use Rattle.run_model.specs.Values.{Name}
use Rattle.class_table.specs.declared.record.ClassRec.{ClassRec}
use Rattle.class_table.specs.declared.record.MethodRec.{MethodRec}
use Rattle.class_table.specs.Slots.{Slots}
use Rattle.class_table.specs.View.{class_name, class_of, class_at, entry_of, entry_at, live_at, number_image, image_of}
use Rattle.class_table.specs.Valid.{IsLive, IsOrderly}
use Rattle.class_table.specs.Finding.{is_named, named_in, only_live, chain_of, is_method_in, method_in, found_on_chain, class_class, found_as_object, found_by_lookup}
use Rattle.class_table.proofs.Live.{eqb-equal, find-passes}
use Rattle.class_table.proofs.Found.{class_named-named_in, lookup-image_of}
use Rattle.st_program.specs.Slots.{class_slot, slot_in, slot_without, slot_from, slot_above}

-- a text without a number is the text of no number
fails : (names : List Name) (t : Name) (n : ℕ) → number_in names t ≡ None → n < length names → text_eq t (name_at names n) ≡ false
fails names t n e h = ap (text_eq t) (unwrap_or-slice_get names n []) ∙ fails_before_first (text_eq t) names n [] (past (nat_lt (position_or_len (text_eq t) names) (length names)) refl)
  where
    past : (b : Bool) → nat_lt (position_or_len (text_eq t) names) (length names) ≡ b → n < position_or_len (text_eq t) names
    past true q = let bad : Some (position_or_len (text_eq t) names) ≡ None = sym (ap (λ b. cond b (Some (position_or_len (text_eq t) names)) None) q) ∙ e in cc
    past false q = let end : length names ≤ position_or_len (text_eq t) names = ltb-false _ _ q in omega arith

-- a text with a number is the text of that number
pub holds : (names : List Name) (t : Name) (n : ℕ) → number_in names t ≡ Some n → (n < length names) × (t ≡ name_at names n)
holds names t n e =
    let at = position-Some (text_eq t) names n [] e in
    (at.0, (slice_eq-Decides Decides-eqb t (get_or names n []) (text_eq t (get_or names n [])) refl).0 at.1 ∙ sym (unwrap_or-slice_get names n []))

-- no class has a text that has no number
no_class : (names : List Name) (t : Name) (cs : List (ClassOf ℕ)) → number_in names t ≡ None → AllByRecursion (ClassNames (λ n. n < length names)) cs → find (λ (c : ClassOf Name). text_eq t c.name) (map (map_class (name_at names)) cs) ≡ None
no_class names t [] e p = refl
no_class names t (c ∷ cs) e p =
    ap (λ b. cond b (Some (map_class (name_at names) c)) (find (λ (c : ClassOf Name). text_eq t c.name) (map (map_class (name_at names)) cs))) (fails names t c.name e p.0.name)
    ∙ no_class names t cs e p.1

and-false : (b : Bool) → (b && false) ≡ false
and-false true = refl
and-false false = refl

-- no method has a selector that has no number
no_method : (names : List Name) (t c : Name) (meta : Bool) (ms : List (EntryOf ℕ)) → number_in names t ≡ None → AllByRecursion (EntryNames (λ n. n < length names)) ms → own_method text_eq (map (map_entry (name_at names)) ms) c meta t ≡ None
no_method names t c meta [] e p = refl
no_method names t c meta (m ∷ ms) e p =
    ap (λ b. cond b (Some (map_entry (name_at names) m)) (own_method text_eq (map (map_entry (name_at names)) ms) c meta t))
    (ap (λ b. option_map_or (text_eq c) (option_map (name_at names) m.class) false && beq meta m.meta && b) (fails names t m.tree.selector e p.0.tree.selector)
    ∙ and-false (option_map_or (text_eq c) (option_map (name_at names) m.class) false && beq meta m.meta))
    ∙ no_method names t c meta ms e p.1

-- nothing is given first where nothing is given
none_given : {X Y : Type 0} (f : X → Option Y) (xs : List X) → ((x : X) → f x ≡ None) → first_given f xs ≡ None
none_given f [] h = refl
none_given f (x ∷ xs) h = ap (λ o. option_or o (first_given f xs)) (h x) ∙ none_given f xs h

or-none : {X : Type 0} (o : Option X) → option_or o None ≡ o
or-none None = refl
or-none (Some x) = refl

-- the name of a slot that is named
named : (s : Slots) (n k : ℕ) → is_named s.classes n k ≡ true → class_name s.classes k ≡ Some n
named s n k e = by (class_name s.classes k) e
  where
    by : (o : Option ℕ) → option_map_or (nat_eq n) o false ≡ true → o ≡ Some n
    by None q = absurd (true≢false (sym q))
    by (Some m) q = ap Some (sym (eqb-equal n m q))

module _ (s : Slots) (orderly : IsOrderly s) where
  abbrev pub image : ImageOf Name
  image = image_of s

  abbrev looked : Option Name → Bool → Name → Option (EntryOf Name)
  looked o meta t = lookup text_words image o meta t

  abbrev entry_in : Option ℕ → Option (EntryOf Name)
  entry_in o = option_map (map_entry (name_at s.names)) (option_and_then (entry_at s) o)

  -- no look-up finds a method for a selector that has no number
  none_looked : (o : Option Name) (meta : Bool) (t : Name) → number_in s.names t ≡ None → looked o meta t ≡ None
  none_looked o meta t e = (λ i. option_or (chained (class_of_name text_eq image.classes o) meta i) (second meta i))
    where
      chained : (c : Option (ClassOf Name)) (b : Bool) → on_chain text_eq image c b t ≡ None
      chained c b = none_given (λ (d : ClassOf Name). own_method text_eq image.methods d.name b t) (chain_from text_eq image.classes c) (λ d. no_method s.names t d.name b (number_image s).methods e orderly.names_known.methods)

      second : (b : Bool) → cond b (as_object text_words image t) None ≡ None
      second true = chained (find (λ (c : ClassOf Name). text_eq (codes "Class") c.name) image.classes) false
      second false = refl

  -- a look-up from a live class
  from_live : (k : ℕ) (meta : Bool) (t : Name) → IsLive s.class_order k → entry_in (slot_in s k meta t) ≡ looked (option_map (name_at s.names) (class_name s.classes k)) meta t
  from_live k meta t l = by (number_in s.names t) refl
    where
      by : (o : Option ℕ) → number_in s.names t ≡ o → entry_in (option_and_then (λ m. found_by_lookup s k meta m) o) ≡ looked (option_map (name_at s.names) (class_name s.classes k)) meta t
      by None e = sym (none_looked (option_map (name_at s.names) (class_name s.classes k)) meta t e)
      by (Some m) e =
          let h = holds s.names t m e in
          sym (lookup-image_of s orderly k meta m l h.0) ∙ ap (looked (option_map (name_at s.names) (class_name s.classes k)) meta) (sym h.1)

  -- what the slot of a class says of the class of its name
  abbrev pub ClassSlot : Name → Option ℕ → Type 0
  ClassSlot c None = class_of_name text_eq image.classes (Some c) ≡ None
  ClassSlot c (Some k) =
      IsLive s.class_order k × (option_map (name_at s.names) (class_name s.classes k) ≡ Some c) × (class_of_name text_eq image.classes (Some c) ≡ option_map (map_class (name_at s.names)) (class_at s k))

  pub class_slot-tells : (c : Name) → ClassSlot c (class_slot s c)
  class_slot-tells c = by (number_in s.names c) refl
    where
      there : (n : ℕ) → number_in s.names c ≡ Some n → (o : Option ℕ) → named_in s.classes s.class_order n ≡ o → class_of_name text_eq image.classes (Some c) ≡ option_map (map_class (name_at s.names)) (option_and_then (class_at s) o)
      there n e o q =
          let h = holds s.names c n e in
          ap (λ t. class_of_name text_eq image.classes (Some t)) h.1
          ∙ class_of_name-map (λ n. n < length s.names) (name_at s.names) (number_words s.names) text_words (KeepsWords-number_words s.names orderly.names_distinct) (number_image s).classes (Some n) orderly.names_known.classes h.0
          ∙ ap (option_map (map_class (name_at s.names))) (class_named-named_in s n ∙ ap (option_and_then (class_at s)) q)

      slot : (n : ℕ) → number_in s.names c ≡ Some n → (o : Option ℕ) → named_in s.classes s.class_order n ≡ o → ClassSlot c o
      slot n e None q = there n e None q
      slot n e (Some k) q =
          let fp = find-passes (is_named s.classes n) s.class_order k q in
          let h = holds s.names c n e in
          (fp.1, ap (option_map (name_at s.names)) (named s n k fp.0) ∙ ap Some (sym h.1), there n e (Some k) q)

      by : (o : Option ℕ) → number_in s.names c ≡ o → ClassSlot c (option_and_then (named_in s.classes s.class_order) o)
      by None e = no_class s.names c (number_image s).classes e orderly.names_known.classes
      by (Some n) e = slot n e (named_in s.classes s.class_order n) refl

  -- a look-up without a class
  without : (meta : Bool) (t : Name) → entry_in (slot_without s meta t) ≡ looked None meta t
  without meta t = by meta
    where
      from_class : (o : Option ℕ) → ClassSlot (codes "Class") o → entry_in (option_and_then (λ k. slot_in s k false t) o) ≡ on_chain text_eq image (class_of_name text_eq image.classes (Some (codes "Class"))) false t
      from_class None h = sym (ap (λ o. on_chain text_eq image o false t) h ∙ ap (first_given (λ (d : ClassOf Name). own_method text_eq image.methods d.name false t)) (upwards-none (superclass_of text_eq image.classes) (length image.classes)))
      from_class (Some k) h = from_live k false t h.0 ∙ ap (λ o. looked o false t) h.1 ∙ or-none (on_chain text_eq image (class_of_name text_eq image.classes (Some (codes "Class"))) false t)

      nothing : (b : Bool) → on_chain text_eq image None b t ≡ None
      nothing b = ap (first_given (λ (d : ClassOf Name). own_method text_eq image.methods d.name b t)) (upwards-none (superclass_of text_eq image.classes) (length image.classes))

      by : (b : Bool) → entry_in (cond b (option_and_then (λ k. slot_in s k false t) (class_slot s (codes "Class"))) None) ≡ looked None b t
      by true = from_class (class_slot s (codes "Class")) (class_slot-tells (codes "Class")) ∙ sym (ap (λ o. option_or o (as_object text_words image t)) (nothing true))
      by false = sym (ap (λ o. option_or o None) (nothing false))

  -- a look-up from the class of a name
  pub looked_up : (c : Name) (meta : Bool) (t : Name) → entry_in (slot_from s (class_slot s c) meta t) ≡ looked (Some c) meta t
  looked_up c meta t = by (class_slot s c) (class_slot-tells c)
    where
      by : (o : Option ℕ) → ClassSlot c o → entry_in (slot_from s o meta t) ≡ looked (Some c) meta t
      by None h = without meta t ∙ sym (ap (λ o. option_or (on_chain text_eq image o meta t) (cond meta (as_object text_words image t) None)) h)
      by (Some k) h = from_live k meta t h.0 ∙ ap (λ o. looked o meta t) h.1

  -- a look-up above the class of a name, if there is a name
  pub looked_above : (o : Option Name) (meta : Bool) (t : Name) → entry_in (slot_from s (option_and_then (slot_above s) (option_and_then (class_slot s) o)) meta t) ≡ super_lookup text_words image o meta t
  looked_above None meta t = without meta t
  looked_above (Some c) meta t = by (class_slot s c) (class_slot-tells c)
    where
      above : (k : ℕ) → IsLive s.class_order k → (r : Option ClassRec) → slice_get s.classes k ≡ r
          → entry_in (slot_from s (option_and_then (λ (x : ClassRec). x.superclass) r) meta t) ≡ looked (option_and_then (λ (d : ClassOf Name). d.superclass) (option_map (map_class (name_at s.names)) (option_map (class_of s.classes) r))) meta t
      above k l None e = without meta t
      above k l (Some r) e = up r.superclass refl
        where
          up : (j : Option ℕ) → r.superclass ≡ j → entry_in (slot_from s j meta t) ≡ looked (option_map (name_at s.names) (option_and_then (class_name s.classes) j)) meta t
          up None q = without meta t
          up (Some j) q = from_live j meta t (orderly.superclasses_live j k r l e q)

      by : (o : Option ℕ) → ClassSlot c o → entry_in (slot_from s (option_and_then (slot_above s) o) meta t) ≡ looked (option_and_then (λ (d : ClassOf Name). d.superclass) (class_of_name text_eq image.classes (Some c))) meta t
      by None h = without meta t ∙ sym (ap (λ o. looked (option_and_then (λ (d : ClassOf Name). d.superclass) o) meta t) h)
      by (Some k) h =
          ap (λ b. entry_in (slot_from s (option_and_then (λ (x : ClassRec). x.superclass) (cond b (slice_get s.classes k) None)) meta t)) h.0
          ∙ above k h.0 (slice_get s.classes k) refl
          ∙ sym (ap (λ o. looked (option_and_then (λ (d : ClassOf Name). d.superclass) o) meta t) h.2)

  -- the slots that are found are live

  given_live : (f : ℕ → Option ℕ) → ((x y : ℕ) → f x ≡ Some y → IsLive s.method_order y) → (xs : List ℕ) (y : ℕ) → first_given f xs ≡ Some y → IsLive s.method_order y
  given_live f h [] y e = absurd (cc)
  given_live f h (x ∷ xs) y e = by (f x) refl e (given_live f h xs y)
    where
      by : (o : Option ℕ) → f x ≡ o → option_or o (first_given f xs) ≡ Some y → (first_given f xs ≡ Some y → IsLive s.method_order y) → IsLive s.method_order y
      by None q r rest = rest r
      by (Some z) q r rest = h x y (q ∙ r)

  chain_live : (k : ℕ) (meta : Bool) (m y : ℕ) → found_on_chain s k meta m ≡ Some y → IsLive s.method_order y
  chain_live k meta m y e =
      given_live (λ c. method_in s.methods s.method_order (record { class = c; meta = meta; selector = m })) (λ x z q. (find-passes (is_method_in s.methods (record { class = x; meta = meta; selector = m })) s.method_order z q).1) (chain_of s.classes s.class_order k) y e

  object_live : (m y : ℕ) → found_as_object s m ≡ Some y → IsLive s.method_order y
  object_live m y e = by (class_class s) e
    where
      by : (o : Option ℕ) → option_and_then (λ c. found_on_chain s c false m) o ≡ Some y → IsLive s.method_order y
      by None q = absurd (cc)
      by (Some c) q = chain_live c false m y q

  found_live : (k : ℕ) (meta : Bool) (m y : ℕ) → found_by_lookup s k meta m ≡ Some y → IsLive s.method_order y
  found_live k meta m y e = by (only_live s.class_order k) e
    where
      second : (b : Bool) → cond b (found_as_object s m) None ≡ Some y → IsLive s.method_order y
      second true q = object_live m y q
      second false q = absurd (cc)

      either : (c : ℕ) (a : Option ℕ) → found_on_chain s c meta m ≡ a → option_or a (cond meta (found_as_object s m) None) ≡ Some y → IsLive s.method_order y
      either c None p q = second meta q
      either c (Some z) p q = chain_live c meta m y (p ∙ q)

      by : (o : Option ℕ) → option_and_then (λ c. option_or (found_on_chain s c meta m) (cond meta (found_as_object s m) None)) o ≡ Some y → IsLive s.method_order y
      by None q = absurd (cc)
      by (Some c) q = either c (found_on_chain s c meta m) refl q

  slot_live : (k : ℕ) (meta : Bool) (t : Name) (y : ℕ) → slot_in s k meta t ≡ Some y → IsLive s.method_order y
  slot_live k meta t y e = by (number_in s.names t) e
    where
      by : (o : Option ℕ) → option_and_then (λ m. found_by_lookup s k meta m) o ≡ Some y → IsLive s.method_order y
      by None q = absurd (cc)
      by (Some m) q = found_live k meta m y q

  without_live : (meta : Bool) (t : Name) (y : ℕ) → slot_without s meta t ≡ Some y → IsLive s.method_order y
  without_live true t y e = by (class_slot s (codes "Class")) e
    where
      by : (o : Option ℕ) → option_and_then (λ k. slot_in s k false t) o ≡ Some y → IsLive s.method_order y
      by None q = absurd (cc)
      by (Some k) q = slot_live k false t y q
  without_live false t y e = absurd (cc)

  pub from_slot_live : (o : Option ℕ) (meta : Bool) (t : Name) (y : ℕ) → slot_from s o meta t ≡ Some y → IsLive s.method_order y
  from_slot_live None meta t y e = without_live meta t y e
  from_slot_live (Some k) meta t y e = slot_live k meta t y e

  -- the method in the slot that was found
  pub entry_live : (o : Option ℕ) (meta : Bool) (t : Name) → option_and_then (λ y. option_map (entry_of s.classes) (live_at s.methods s.method_order y)) (slot_from s o meta t) ≡ option_and_then (entry_at s) (slot_from s o meta t)
  entry_live o meta t = by (slot_from s o meta t) refl
    where
      by : (p : Option ℕ) → slot_from s o meta t ≡ p → option_and_then (λ y. option_map (entry_of s.classes) (live_at s.methods s.method_order y)) p ≡ option_and_then (entry_at s) p
      by None q = refl
      by (Some y) q = ap (λ b. option_map (entry_of s.classes) (cond b (slice_get s.methods y) None)) (from_slot_live o meta t y q)

  -- the class of a live method is live
  pub class_live : (y : ℕ) (m : MethodRec) → live_at s.methods s.method_order y ≡ Some m → live_at s.classes s.class_order m.class ≡ slice_get s.classes m.class
  class_live y m e = by (list_any (nat_eq y) s.method_order) refl e
    where
      by : (b : Bool) → list_any (nat_eq y) s.method_order ≡ b → cond b (slice_get s.methods y) None ≡ Some m → live_at s.classes s.class_order m.class ≡ slice_get s.classes m.class
      by true l q = ap (λ b. cond b (slice_get s.classes m.class) None) (orderly.method_classes_live y m l q)
      by false l q = absurd (cc)

  -- the method that was found for a message
  pub method_found : (c : Name) (meta : Bool) (t u : Name) (o slot : Option ℕ) → o ≡ class_slot s c → u ≡ t → slot ≡ slot_from s o meta u
      → option_map (map_entry (name_at s.names)) (option_and_then (λ y. option_map (entry_of s.classes) (live_at s.methods s.method_order y)) slot) ≡ looked (Some c) meta t
  method_found c meta t u o slot e w q =
      ap (λ z. option_map (map_entry (name_at s.names)) (option_and_then (λ y. option_map (entry_of s.classes) (live_at s.methods s.method_order y)) z)) q
      ∙ ap (option_map (map_entry (name_at s.names))) (entry_live o meta u)
      ∙ (λ i. entry_in (slot_from s (e i) meta (w i)))
      ∙ looked_up c meta t

  -- the same for a message to `super`
  pub super_found : (c : Option Name) (meta b : Bool) (t u : Name) (o slot : Option ℕ) → o ≡ option_and_then (slot_above s) (option_and_then (class_slot s) c) → b ≡ meta → u ≡ t → slot ≡ slot_from s o b u
      → option_map (map_entry (name_at s.names)) (option_and_then (λ y. option_map (entry_of s.classes) (live_at s.methods s.method_order y)) slot) ≡ super_lookup text_words image c meta t
  super_found c meta b t u o slot e m w q =
      ap (λ z. option_map (map_entry (name_at s.names)) (option_and_then (λ y. option_map (entry_of s.classes) (live_at s.methods s.method_order y)) z)) q
      ∙ ap (option_map (map_entry (name_at s.names))) (entry_live o b u)
      ∙ (λ i. entry_in (slot_from s (e i) (m i) (w i)))
      ∙ looked_above c meta t
