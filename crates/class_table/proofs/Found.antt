-- What is found among slots is what is found in the image for which they stand.
use Rattle.std.proofs.Common.{◌≡◌, ◌≢◌, ◌⊎◌, inl, inr, ℕ, zero, suc, ◌<◌, ◌≤◌, Bool, true, false, cond, ◌&&◌, nat_lt, List, [], ◌∷◌, ◌++◌, length, find, unwrap_or, get_or, Option, Some, None, is_some, option_map, slice_get, refl, sym, ap, ◌∙◌, arith, true≢false}
use Rattle.std.specs.Prelude.{nat_eq, codes}
use Rattle.std.specs.Bool.{beq}
use Rattle.std.specs.List.{list_any, position_or_len, filter_map, cons_option}
use Rattle.std.specs.Option.{option_map_or, option_and_then, option_or}
use Rattle.std.proofs.Math.Dec.{eqb}
use Rattle.std.proofs.lemmas.Bool.{ltb-false}
use Rattle.std.proofs.lemmas.Bool.Decides.{eqb_tells, Decides-eqb}
use Rattle.std.proofs.lemmas.Slice.Eq.{slice_eq-Decides}
use Rattle.std.proofs.lemmas.List.Quantifiers.{position-Some}
use Rattle.std.proofs.lemmas.List.Sums.{fails_before_first}
use Rattle.std.proofs.lemmas.Option.{unwrap_or-slice_get}
use Rattle.rb_base.specs.Names.{text_eq, number_in, name_at, HasNoTwice}
use Rattle.rb_base.proofs.NamesLemmas.{text_eq-name_at}
use Rattle.image_model.specs.Image.{ClassOf, EntryOf, ImageOf, map_entry}
use Rattle.image_model.specs.ImageNames.{OptionNames, ClassNames, ImageNames}
use Rattle.image_model.proofs.MapImage.{map_image-same, ImageNames-implies}
use Rattle.image_model.proofs.Changed.{lookup-map_image}
use Rattle.image_model.proofs.Tables.{KeepsWords-number_words}
use Rattle.image_model.proofs.Lists.{length-map}
use Rattle.image_model.specs.Words.{number_words, text_words}
use Rattle.image_model.specs.Upwards.{upwards, first_given}
use Rattle.image_model.specs.Chain.{class_named, class_of_name, superclass_of, chain_from, chain}
use Rattle.image_model.specs.Lookup.{is_method, own_method, on_chain, as_object, lookup}
use Rattle.class_table.specs.declared.record.ClassRec.{ClassRec}
use Rattle.class_table.specs.declared.record.MethodRec.{MethodRec}
use Rattle.class_table.specs.Slots.{Slots}
use Rattle.class_table.specs.View.{live, class_name, class_of, class_at, entry_of, entry_at, number_image, image_of}
use Rattle.class_table.specs.Valid.{IsLive, IsOrderly}
use Rattle.class_table.specs.Finding.{is_named, named_in, only_live, above, chain_of, same_key, is_method_in, method_in, found_on_chain, class_class, found_as_object, found_by_lookup}
use Rattle.class_table.proofs.Live.{eqb-refl, IsLive-first, IsLive-rest, eqb-equal, find-agree, find-only, find-passes, find-live, live-fact, there, length-live}

-- the number of a text is that of the names that are equal to it
number_in-test : (names : List (List ℕ)) (t : List ℕ) (n : ℕ) → HasNoTwice names → n < length names → text_eq t (name_at names n) ≡ option_map_or (λ (m : ℕ). nat_eq m n) (number_in names t) false
number_in-test names t n distinct h = by (number_in names t) refl
  where
    by : (o : Option ℕ) → number_in names t ≡ o → text_eq t (name_at names n) ≡ option_map_or (λ (m : ℕ). nat_eq m n) o false
    by (Some i) e =
        let at = position-Some (text_eq t) names i [] e in
        let same : t ≡ name_at names i = (slice_eq-Decides Decides-eqb t (get_or names i []) (text_eq t (get_or names i [])) refl).0 at.1 ∙ sym (unwrap_or-slice_get names i []) in
        ap (λ (u : List ℕ). text_eq u (name_at names n)) same ∙ text_eq-name_at names distinct i n at.0 h
    by None e = ap (text_eq t) (unwrap_or-slice_get names n []) ∙ fails_before_first (text_eq t) names n [] (past (nat_lt (position_or_len (text_eq t) names) (length names)) refl)
      where
        past : (b : Bool) → nat_lt (position_or_len (text_eq t) names) (length names) ≡ b → n < position_or_len (text_eq t) names
        past true q = let bad : Some (position_or_len (text_eq t) names) ≡ None = sym (ap (λ b. cond b (Some (position_or_len (text_eq t) names)) None) q) ∙ e in cc
        past false q = let end : length names ≤ position_or_len (text_eq t) names = ltb-false _ _ q in omega arith

-- nothing is found where no live slot passes
find-none : (p : ℕ → Bool) (order : List ℕ) → ((k : ℕ) → IsLive order k → p k ≡ false) → find p order ≡ None
find-none p [] h = refl
find-none p (k ∷ ks) h = (λ i. cond (h k (IsLive-first k ks) i) (Some k) (find p ks)) ∙ find-none p ks (λ j l. h j (IsLive-rest j k ks l))

-- tests in a row
and-assoc : (a b c : Bool) → ((a && b) && c) ≡ (a && (b && c))
and-assoc true b c = refl
and-assoc false b c = refl

-- the first of two that are read
first-read : {X Y : Type 0} (read : X → Option Y) (a b : Option X) → ((x : X) → a ≡ Some x → is_some (read x) ≡ true) → option_or (option_and_then read a) (option_and_then read b) ≡ option_and_then read (option_or a b)
first-read read None b h = refl
first-read read (Some x) b h = by (read x) (h x refl)
  where
    by : (o : Option _) → is_some o ≡ true → option_or o (option_and_then read b) ≡ o
    by None q = absurd (true≢false (sym q))
    by (Some y) q = refl

-- what is given first is given of one of the items
first_given-fact : {X Y : Type 0} (P : Y → Type 0) (give : X → Option Y) → ((x : X) (y : Y) → give x ≡ Some y → P y) → (xs : List X) (y : Y) → first_given give xs ≡ Some y → P y
first_given-fact P give h [] y e = absurd (cc)
first_given-fact P give h (x ∷ xs) y e = by (give x) refl e (first_given-fact P give h xs y)
  where
    by : (o : Option _) → give x ≡ o → option_or o (first_given give xs) ≡ Some y → (first_given give xs ≡ Some y → P y) → P y
    by None q r rest = rest r
    by (Some z) q r rest = h x y (q ∙ r)

module _ (s : Slots) (orderly : IsOrderly s) where
  abbrev image : ImageOf ℕ
  image = number_image s

  -- a live slot holds a class
  class_there : (k : ℕ) → IsLive s.class_order k → (c : ClassRec) × (slice_get s.classes k ≡ Some c)
  class_there k l = there s.classes k (orderly.class_order.below k l)

  -- the name of a live class leads to it
  pub class_named-live : (k : ℕ) (c : ClassRec) → IsLive s.class_order k → slice_get s.classes k ≡ Some c → class_named nat_eq image.classes c.name ≡ Some (class_of s.classes c)
  class_named-live k c l e =
      sym (find-live (class_of s.classes) (λ (d : ClassOf ℕ). nat_eq c.name d.name) s.classes s.class_order)
      ∙ ap (option_and_then (class_at s)) (find-only test s.class_order k l (ap (λ o. option_map_or (λ (x : ClassRec). nat_eq c.name x.name) o false) e ∙ eqb-refl c.name) only)
      ∙ ap (option_map (class_of s.classes)) e
    where
      test : ℕ → Bool
      test j = option_map_or (λ (x : ClassRec). nat_eq c.name x.name) (slice_get s.classes j) false

      named : (o : Option ClassRec) → option_map_or (λ (x : ClassRec). nat_eq c.name x.name) o false ≡ true → option_map (λ (x : ClassRec). x.name) o ≡ Some c.name
      named None q = absurd (true≢false (sym q))
      named (Some x) q = ap Some (sym (eqb-equal c.name x.name q))

      only : (j : ℕ) → IsLive s.class_order j → test j ≡ true → j ≡ k
      only j m q = orderly.class_names_distinct j k c.name m l (named (slice_get s.classes j) q) (ap (option_map (λ (x : ClassRec). x.name)) e)

  -- what is above a live class is live
  above_live : (k : ℕ) → OptionNames (IsLive s.class_order) (above s.classes s.class_order k)
  above_live k = by (slice_get s.classes k)
    where
      only : (j : ℕ) (b : Bool) → list_any (nat_eq j) s.class_order ≡ b → OptionNames (IsLive s.class_order) (cond b (Some j) None)
      only j true q = q
      only j false q = tt

      then : (o : Option ℕ) → OptionNames (IsLive s.class_order) (option_and_then (only_live s.class_order) o)
      then None = tt
      then (Some j) = only j (list_any (nat_eq j) s.class_order) refl

      by : (o : Option ClassRec) → OptionNames (IsLive s.class_order) (option_and_then (λ (c : ClassRec). option_and_then (only_live s.class_order) c.superclass) o)
      by None = tt
      by (Some c) = then c.superclass

  -- the superclass of a live class
  superclass_of-live : (k : ℕ) (c : ClassRec) → IsLive s.class_order k → slice_get s.classes k ≡ Some c
      → superclass_of nat_eq image.classes (class_of s.classes c) ≡ option_and_then (class_at s) (above s.classes s.class_order k)
  superclass_of-live k c l e =
      by c.superclass refl ∙ sym (ap (λ o. option_and_then (class_at s) (option_and_then (λ (d : ClassRec). option_and_then (only_live s.class_order) d.superclass) o)) e)
    where
      by : (o : Option ℕ) → c.superclass ≡ o → class_of_name nat_eq image.classes (option_and_then (class_name s.classes) o) ≡ option_and_then (class_at s) (option_and_then (only_live s.class_order) o)
      by None q = refl
      by (Some j) q =
          let m : IsLive s.class_order j = orderly.superclasses_live j k c l e q in
          let d = class_there j m in
          ap (class_of_name nat_eq image.classes) (ap (option_map (λ (x : ClassRec). x.name)) d.1) ∙ class_named-live j d.0 m d.1
          ∙ sym (ap (λ b. option_and_then (class_at s) (cond b (Some j) None)) m ∙ ap (option_map (class_of s.classes)) d.1)

  module _ (meta : Bool) (selector : ℕ) where
    abbrev own : ℕ → Option ℕ
    own k = method_in s.methods s.method_order (record { class = k; meta = meta; selector = selector })

    abbrev own_there : ClassOf ℕ → Option (EntryOf ℕ)
    own_there d = own_method nat_eq image.methods d.name meta selector

    -- the class of a live method is a live class exactly where it has its name
    class-agrees : (k : ℕ) (c : ClassRec) (j : ℕ) (m : MethodRec) → IsLive s.class_order k → slice_get s.classes k ≡ Some c → IsLive s.method_order j → slice_get s.methods j ≡ Some m
        → option_map_or (nat_eq c.name) (class_name s.classes m.class) false ≡ nat_eq k m.class
    class-agrees k c j m l e n q =
        let live : IsLive s.class_order m.class = orderly.method_classes_live j m n q in
        let d = class_there m.class live in
        ap (λ o. option_map_or (nat_eq c.name) (option_map (λ (x : ClassRec). x.name) o) false) d.1 ∙ by d.0 d.1 live (eqb_tells c.name d.0.name) (eqb_tells k m.class)
      where
        by : (d : ClassRec) → slice_get s.classes m.class ≡ Some d → IsLive s.class_order m.class → ((eqb c.name d.name ≡ true) × (c.name ≡ d.name)) ⊎ ((eqb c.name d.name ≡ false) × (c.name ≢ d.name)) → ((eqb k m.class ≡ true) × (k ≡ m.class)) ⊎ ((eqb k m.class ≡ false) × (k ≢ m.class))
            → nat_eq c.name d.name ≡ nat_eq k m.class
        by d t live (inl a) (inl b) = a.0 ∙ sym b.0
        by d t live (inl a) (inr b) =
            absurd (b.1 (orderly.class_names_distinct k m.class c.name l live (ap (option_map (λ (x : ClassRec). x.name)) e) (ap (option_map (λ (x : ClassRec). x.name)) t ∙ ap Some (sym a.1))))
        by d t live (inr a) (inl b) = let same : Some c ≡ Some d = sym e ∙ ap (slice_get s.classes) b.1 ∙ t in let is : c ≡ d = cc in absurd (a.1 (ap (λ (x : ClassRec). x.name) is))
        by d t live (inr a) (inr b) = a.0 ∙ sym b.0

    -- the method of a live class
    own-live : (k : ℕ) (c : ClassRec) → IsLive s.class_order k → slice_get s.classes k ≡ Some c → own_there (class_of s.classes c) ≡ option_and_then (entry_at s) (own k)
    own-live k c l e =
        sym (find-live (entry_of s.classes) (is_method nat_eq c.name meta selector) s.methods s.method_order)
        ∙ ap (option_and_then (entry_at s)) (find-agree (λ j. option_map_or (λ x. is_method nat_eq c.name meta selector (entry_of s.classes x)) (slice_get s.methods j) false) (is_method_in s.methods (record { class = k; meta = meta; selector = selector })) s.method_order (λ j n. by j n (slice_get s.methods j) refl))
      where
        by : (j : ℕ) → IsLive s.method_order j → (o : Option MethodRec) → slice_get s.methods j ≡ o
            → option_map_or (λ x. is_method nat_eq c.name meta selector (entry_of s.classes x)) o false
            ≡ option_map_or (same_key (record { class = k; meta = meta; selector = selector })) (option_map (λ (m : MethodRec). record { class = m.class; meta = m.meta; selector = m.tree.selector }) o) false
        by j n None q = refl
        by j n (Some m) q = and-assoc (option_map_or (nat_eq c.name) (class_name s.classes m.class) false) (beq meta m.meta) (nat_eq selector m.tree.selector) ∙ ap (λ b. b && (beq meta m.meta && nat_eq selector m.tree.selector)) (class-agrees k c j m l e n q)

    -- the slot of a method that is found holds one
    own-there : (k y : ℕ) → own k ≡ Some y → is_some (entry_at s y) ≡ true
    own-there k y e = by (slice_get s.methods y) (find-passes (is_method_in s.methods (record { class = k; meta = meta; selector = selector })) s.method_order y e).0
      where
        by : (o : Option MethodRec) → option_map_or (same_key (record { class = k; meta = meta; selector = selector })) (option_map (λ (m : MethodRec). record { class = m.class; meta = m.meta; selector = m.tree.selector }) o) false ≡ true → is_some (option_map (entry_of s.classes) o) ≡ true
        by None q = absurd (true≢false (sym q))
        by (Some m) q = refl

    -- the first method on the way up
    found-upwards : (n : ℕ) (o : Option ℕ) → OptionNames (IsLive s.class_order) o
        → first_given own_there (upwards (superclass_of nat_eq image.classes) n (option_and_then (class_at s) o)) ≡ option_and_then (entry_at s) (first_given own (upwards (above s.classes s.class_order) n o))
    found-upwards zero o l = refl
    found-upwards (suc n) None l = refl
    found-upwards (suc n) (Some k) l =
        let c = class_there k l in
        ap (λ x. first_given own_there (upwards (superclass_of nat_eq image.classes) (suc n) x)) (ap (option_map (class_of s.classes)) c.1)
        ∙ (λ i. option_or (own-live k c.0 l c.1 i) (first_given own_there (upwards (superclass_of nat_eq image.classes) n (superclass_of-live k c.0 l c.1 i))))
        ∙ ap (option_or (option_and_then (entry_at s) (own k))) (found-upwards n (above s.classes s.class_order k) (above_live k))
        ∙ first-read (entry_at s) (own k) (first_given own (upwards (above s.classes s.class_order) n (above s.classes s.class_order k))) (own-there k)

    -- the first method on the chain of a live class
    on_chain-live : (k : ℕ) (c : ClassRec) → IsLive s.class_order k → slice_get s.classes k ≡ Some c → on_chain nat_eq image (Some (class_of s.classes c)) meta selector ≡ option_and_then (entry_at s) (found_on_chain s k meta selector)
    on_chain-live k c l e =
        ap (λ (n : ℕ). first_given own_there (upwards (superclass_of nat_eq image.classes) n (Some (class_of s.classes c)))) (length-map (class_of s.classes) (live s.classes s.class_order) ∙ length-live s.classes s.class_order orderly.class_order.below)
        ∙ ap (λ o. first_given own_there (upwards (superclass_of nat_eq image.classes) (length s.class_order) o)) (sym (ap (option_map (class_of s.classes)) e))
        ∙ found-upwards (length s.class_order) (Some k) l
        ∙ ap (λ b. option_and_then (entry_at s) (first_given own (upwards (above s.classes s.class_order) (length s.class_order) (cond b (Some k) None)))) (sym l)

    -- the slot of a method that is found on a chain holds one
    found_on_chain-there : (k y : ℕ) → found_on_chain s k meta selector ≡ Some y → is_some (entry_at s y) ≡ true
    found_on_chain-there k y e = first_given-fact (λ z. is_some (entry_at s z) ≡ true) own own-there (chain_of s.classes s.class_order k) y e

  -- the class `Class`
  class_class-live : find (λ (d : ClassOf ℕ). (number_words s.names).is_class d.name) image.classes ≡ option_and_then (class_at s) (class_class s)
  class_class-live =
      sym (find-live (class_of s.classes) (λ (d : ClassOf ℕ). (number_words s.names).is_class d.name) s.classes s.class_order) ∙ ap (option_and_then (class_at s)) (find-agree _ by_number s.class_order (λ k l. agrees k l (slice_get s.classes k) refl) ∙ by (number_in s.names (codes "Class")) refl)
    where
      by_number : ℕ → Bool
      by_number k = option_map_or (λ (x : ClassRec). option_map_or (λ (m : ℕ). nat_eq m x.name) (number_in s.names (codes "Class")) false) (slice_get s.classes k) false

      agrees : (k : ℕ) → IsLive s.class_order k → (o : Option ClassRec) → slice_get s.classes k ≡ o → option_map_or (λ (x : ClassRec). text_eq (codes "Class") (name_at s.names x.name)) o false ≡ option_map_or (λ (x : ClassRec). option_map_or (λ (m : ℕ). nat_eq m x.name) (number_in s.names (codes "Class")) false) o false
      agrees k l None e = refl
      agrees k l (Some c) e = number_in-test s.names (codes "Class") c.name orderly.names_distinct ((live-fact (ClassNames (λ n. n < length s.names)) (class_of s.classes) s.classes s.class_order k c orderly.names_known.classes l e).name)

      none : (x : Option ClassRec) → option_map_or (λ (c : ClassRec). false) x false ≡ false
      none None = refl
      none (Some c) = refl

      some : (i : ℕ) (x : Option ClassRec) → option_map_or (λ (c : ClassRec). nat_eq i c.name) x false ≡ option_map_or (nat_eq i) (option_map (λ (c : ClassRec). c.name) x) false
      some i None = refl
      some i (Some c) = refl

      by : (o : Option ℕ) → number_in s.names (codes "Class") ≡ o → find (λ k. option_map_or (λ (x : ClassRec). option_map_or (λ (m : ℕ). nat_eq m x.name) o false) (slice_get s.classes k) false) s.class_order ≡ option_and_then (named_in s.classes s.class_order) o
      by None e = find-none _ s.class_order (λ k l. none (slice_get s.classes k))
      by (Some i) e = find-agree _ (is_named s.classes i) s.class_order (λ k l. some i (slice_get s.classes k))

  -- the class `Class` is live
  class_class_live : (k : ℕ) → class_class s ≡ Some k → IsLive s.class_order k
  class_class_live k e = by (number_in s.names (codes "Class")) e
    where
      by : (o : Option ℕ) → option_and_then (named_in s.classes s.class_order) o ≡ Some k → IsLive s.class_order k
      by None q = absurd (cc)
      by (Some i) q = (find-passes (is_named s.classes i) s.class_order k q).1

  -- what a class understands as an object
  as_object-live : (selector : ℕ) → as_object (number_words s.names) image selector ≡ option_and_then (entry_at s) (found_as_object s selector)
  as_object-live selector = ap (λ o. on_chain nat_eq image o false selector) class_class-live ∙ by (class_class s) class_class_live
    where
      by : (o : Option ℕ) → ((k : ℕ) → o ≡ Some k → IsLive s.class_order k) → on_chain nat_eq image (option_and_then (class_at s) o) false selector ≡ option_and_then (entry_at s) (option_and_then (λ c. found_on_chain s c false selector) o)
      by None h = none (length image.classes)
        where
          none : (n : ℕ) → first_given (λ (d : ClassOf ℕ). own_method nat_eq image.methods d.name false selector) (upwards (superclass_of nat_eq image.classes) n None) ≡ None
          none zero = refl
          none (suc n) = refl
      by (Some k) h = let c = class_there k (h k refl) in ap (λ o. on_chain nat_eq image o false selector) (ap (option_map (class_of s.classes)) c.1) ∙ on_chain-live false selector k c.0 (h k refl) c.1

  -- a look-up from a live class
  pub lookup-live : (k : ℕ) (meta : Bool) (selector : ℕ) → IsLive s.class_order k → lookup (number_words s.names) image (class_name s.classes k) meta selector ≡ option_and_then (entry_at s) (found_by_lookup s k meta selector)
  lookup-live k meta selector l =
      let c = class_there k l in
      (λ i. option_or (first c.0 c.1 i) (second meta i))
      ∙ first-read (entry_at s) (found_on_chain s k meta selector) (cond meta (found_as_object s selector) None) (found_on_chain-there meta selector k)
      ∙ ap (λ b. option_and_then (entry_at s) (option_and_then (λ d. option_or (found_on_chain s d meta selector) (cond meta (found_as_object s selector) None)) (cond b (Some k) None))) (sym l)
    where
      first : (c : ClassRec) → slice_get s.classes k ≡ Some c → on_chain nat_eq image (class_of_name nat_eq image.classes (class_name s.classes k)) meta selector ≡ option_and_then (entry_at s) (found_on_chain s k meta selector)
      first c e =
          ap (λ o. on_chain nat_eq image (class_of_name nat_eq image.classes (option_map (λ (x : ClassRec). x.name) o)) meta selector) e ∙ ap (λ o. on_chain nat_eq image o meta selector) (class_named-live k c l e) ∙ on_chain-live meta selector k c l e

      second : (b : Bool) → cond b (as_object (number_words s.names) image selector) None ≡ option_and_then (entry_at s) (cond b (found_as_object s selector) None)
      second true = as_object-live selector
      second false = refl

  -- a chain
  chain-upwards : (n : ℕ) (o : Option ℕ) → OptionNames (IsLive s.class_order) o
      → upwards (superclass_of nat_eq image.classes) n (option_and_then (class_at s) o) ≡ filter_map (class_at s) (upwards (above s.classes s.class_order) n o)
  chain-upwards zero o l = refl
  chain-upwards (suc n) None l = refl
  chain-upwards (suc n) (Some k) l =
      let c = class_there k l in
      ap (upwards (superclass_of nat_eq image.classes) (suc n)) (ap (option_map (class_of s.classes)) c.1)
      ∙ ap (λ (ds : List (ClassOf ℕ)). class_of s.classes c.0 ∷ ds) (ap (upwards (superclass_of nat_eq image.classes) n) (superclass_of-live k c.0 l c.1) ∙ chain-upwards n (above s.classes s.class_order k) (above_live k))
      ∙ sym (ap (λ o. cons_option o (filter_map (class_at s) (upwards (above s.classes s.class_order) n (above s.classes s.class_order k)))) (ap (option_map (class_of s.classes)) c.1))

  -- the chain of a live class
  pub chain-live : (k : ℕ) → IsLive s.class_order k → chain nat_eq image.classes (class_name s.classes k) ≡ filter_map (class_at s) (chain_of s.classes s.class_order k)
  chain-live k l =
      let c = class_there k l in
      ap (λ o. chain_from nat_eq image.classes (class_of_name nat_eq image.classes (option_map (λ (x : ClassRec). x.name) o))) c.1
      ∙ ap (chain_from nat_eq image.classes) (class_named-live k c.0 l c.1 ∙ sym (ap (option_map (class_of s.classes)) c.1))
      ∙ ap (λ (n : ℕ). upwards (superclass_of nat_eq image.classes) n (class_at s k)) (length-map (class_of s.classes) (live s.classes s.class_order) ∙ length-live s.classes s.class_order orderly.class_order.below)
      ∙ chain-upwards (length s.class_order) (Some k) l
      ∙ ap (λ b. filter_map (class_at s) (upwards (above s.classes s.class_order) (length s.class_order) (cond b (Some k) None))) (sym l)

-- the first live class of a name is the first class of the name
pub class_named-named_in : (s : Slots) (n : ℕ) → class_named nat_eq (number_image s).classes n ≡ option_and_then (class_at s) (named_in s.classes s.class_order n)
class_named-named_in s n =
    sym (find-live (class_of s.classes) (λ (d : ClassOf ℕ). nat_eq n d.name) s.classes s.class_order)
    ∙ ap (option_and_then (class_at s)) (find-agree _ (is_named s.classes n) s.class_order (λ k l. by (slice_get s.classes k)))
  where
    by : (o : Option ClassRec) → option_map_or (λ (c : ClassRec). nat_eq n c.name) o false ≡ option_map_or (nat_eq n) (option_map (λ (c : ClassRec). c.name) o) false
    by None = refl
    by (Some c) = refl

-- a look-up from a live class, over texts
pub lookup-image_of : (s : Slots) → IsOrderly s → (k : ℕ) (meta : Bool) (selector : ℕ) → IsLive s.class_order k → selector < length s.names
    → lookup text_words (image_of s) (option_map (name_at s.names) (class_name s.classes k)) meta (name_at s.names selector)
    ≡ option_map (map_entry (name_at s.names)) (option_and_then (entry_at s) (found_by_lookup s k meta selector))
lookup-image_of s orderly k meta selector l h =
    lookup-map_image (λ n. n < length s.names) (name_at s.names) (number_words s.names) text_words (KeepsWords-number_words s.names orderly.names_distinct) (number_image s) orderly.names_known (class_name s.classes k) meta selector known h
    ∙ ap (option_map (map_entry (name_at s.names))) (lookup-live s orderly k meta selector l)
  where
    known : OptionNames (λ n. n < length s.names) (class_name s.classes k)
    known = by (slice_get s.classes k) refl
      where
        by : (o : Option ClassRec) → slice_get s.classes k ≡ o → OptionNames (λ n. n < length s.names) (option_map (λ (c : ClassRec). c.name) o)
        by None e = tt
        by (Some c) e = (live-fact (ClassNames (λ n. n < length s.names)) (class_of s.classes) s.classes s.class_order k c orderly.names_known.classes l e).name

-- more names change no image
pub image_of-grown : (s : Slots) (more : List (List ℕ)) → ImageNames (λ n. n < length s.names) (number_image s) → image_of (record s { names = s.names ++ more }) ≡ image_of s
image_of-grown s more known =
    map_image-same (name_at (s.names ++ more)) (name_at s.names) (number_image s)
    (ImageNames-implies (λ n. n < length s.names) (λ n. name_at (s.names ++ more) n ≡ name_at s.names n) (λ n h. ap (λ o. unwrap_or o []) (slice_get-append s.names more n h)) (number_image s) known)
  where
    slice_get-append : (xs ys : List (List ℕ)) (n : ℕ) → n < length xs → slice_get (xs ++ ys) n ≡ slice_get xs n
    slice_get-append [] ys n h = absurd (omega arith)
    slice_get-append (x ∷ xs) ys zero h = refl
    slice_get-append (x ∷ xs) ys (suc n) h = slice_get-append xs ys n (omega arith)
