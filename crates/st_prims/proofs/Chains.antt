-- The classes above a class among slots are those of its chain in the image, by the texts of their names.
use Rattle.std.proofs.Common.{◌≡◌, ℕ, zero, suc, ◌<◌, ◌≤◌, Bool, true, false, cond, ◌||◌, nat_lt, List, [], ◌∷◌, length, map, find, get_or, Option, Some, None, slice_get, option_map, refl, sym, ap, ◌∙◌, arith, true≢false}
use Rattle.std.specs.Prelude.{nat_eq}
use Rattle.std.specs.List.{list_any, AllByRecursion, position_or_len, filter_map, cons_option}
use Rattle.std.specs.Option.{option_map_or, option_and_then}
use Rattle.std.proofs.lemmas.Bool.{ltb-false}
use Rattle.std.proofs.lemmas.Bool.Decides.{Decides-eqb}
use Rattle.std.proofs.lemmas.Slice.Eq.{slice_eq-Decides}
use Rattle.std.proofs.lemmas.List.Quantifiers.{position-Some}
use Rattle.std.proofs.lemmas.List.Sums.{fails_before_first}
use Rattle.std.proofs.lemmas.Option.{unwrap_or-slice_get}
use Rattle.rb_base.specs.Names.{text_eq, number_in, name_at}
use Rattle.image_model.specs.Image.{ClassOf, map_class}
use Rattle.image_model.specs.ImageNames.{OptionNames, ClassNames}
use Rattle.image_model.specs.Words.{number_words, text_words}
use Rattle.image_model.specs.Upwards.{upwards, nth_above}
use Rattle.image_model.specs.Chain.{class_of_name, superclass_of, chain_from, chain}
use Rattle.image_model.proofs.Changed.{class_of_name-map, chain_from-map, ClassNames-class_of_name}
use Rattle.image_model.proofs.Tables.{KeepsWords-number_words}
use Rattle.image_model.proofs.UpwardsLemmas.{upwards-all, upwards-none}
use Rattle.run_model.specs.Values.{Name}
use Rattle.class_table.specs.declared.record.ClassRec.{ClassRec}
use Rattle.class_table.specs.Slots.{Slots}
use Rattle.class_table.specs.View.{class_name, class_of, class_at, number_image, image_of}
use Rattle.class_table.specs.Valid.{IsLive, IsOrderly}
use Rattle.class_table.specs.Finding.{is_named, named_in, only_live, above}
use Rattle.class_table.proofs.Live.{eqb-equal, find-passes}
use Rattle.class_table.proofs.Found.{class_named-named_in, chain-live}
use Rattle.st_prims.specs.Walks.{slot_of_text, has_text, next_above}

-- a text without a number is the text of no number
fails : (names : List Name) (t : Name) (n : ℕ) → number_in names t ≡ None → n < length names → text_eq t (name_at names n) ≡ false
fails names t n e h = ap (text_eq t) (unwrap_or-slice_get names n []) ∙ fails_before_first (text_eq t) names n [] (past (nat_lt (position_or_len (text_eq t) names) (length names)) refl)
  where
    past : (b : Bool) → nat_lt (position_or_len (text_eq t) names) (length names) ≡ b → n < position_or_len (text_eq t) names
    past true q = let bad : Some (position_or_len (text_eq t) names) ≡ None = sym (ap (λ b. cond b (Some (position_or_len (text_eq t) names)) None) q) ∙ e in cc
    past false q = let end : length names ≤ position_or_len (text_eq t) names = ltb-false _ _ q in omega arith

-- a text with a number is the text of that number
holds : (names : List Name) (t : Name) (n : ℕ) → number_in names t ≡ Some n → (n < length names) × (t ≡ name_at names n)
holds names t n e =
    let at = position-Some (text_eq t) names n [] e in
    (at.0, (slice_eq-Decides Decides-eqb t (get_or names n []) (text_eq t (get_or names n [])) refl).0 at.1 ∙ sym (unwrap_or-slice_get names n []))

-- no class has a text that has no number
none_named : (names : List Name) (t : Name) (cs : List (ClassOf ℕ)) → number_in names t ≡ None → AllByRecursion (ClassNames (λ n. n < length names)) cs → find (λ (c : ClassOf Name). text_eq t c.name) (map (map_class (name_at names)) cs) ≡ None
none_named names t [] e p = refl
none_named names t (c ∷ cs) e p =
    ap (λ b. cond b (Some (map_class (name_at names) c)) (find (λ (c : ClassOf Name). text_eq t c.name) (map (map_class (name_at names)) cs))) (fails names t c.name e p.0.name)
    ∙ none_named names t cs e p.1

module _ (s : Slots) where
  only_live-live : (j : ℕ) → OptionNames (IsLive s.class_order) (only_live s.class_order j)
  only_live-live j = by (list_any (nat_eq j) s.class_order) refl
    where
      by : (b : Bool) → list_any (nat_eq j) s.class_order ≡ b → OptionNames (IsLive s.class_order) (cond b (Some j) None)
      by true e = e
      by false e = tt

  above_live : (k : ℕ) → OptionNames (IsLive s.class_order) (above s.classes s.class_order k)
  above_live k = by (slice_get s.classes k)
    where
      up : (o : Option ℕ) → OptionNames (IsLive s.class_order) (option_and_then (only_live s.class_order) o)
      up None = tt
      up (Some j) = only_live-live j

      by : (o : Option ClassRec) → OptionNames (IsLive s.class_order) (option_and_then (λ (c : ClassRec). option_and_then (only_live s.class_order) c.superclass) o)
      by None = tt
      by (Some c) = up c.superclass

  same_walk : (n : ℕ) (o : Option ℕ) → OptionNames (IsLive s.class_order) o → upwards (next_above s) n o ≡ upwards (above s.classes s.class_order) n o
  same_walk zero o l = refl
  same_walk (suc n) None l = refl
  same_walk (suc n) (Some k) l =
      ap (λ b. k ∷ upwards (next_above s) n (nth_above (above s.classes s.class_order) 1 (cond b (Some k) None))) l
      ∙ ap (λ (ks : List ℕ). k ∷ ks) (same_walk n (above s.classes s.class_order k) (above_live k))

  -- the names of live slots
  among : (d : Name) (ks : List ℕ) → AllByRecursion (IsLive s.class_order) ks
      → list_any (has_text s d) ks ≡ list_any (λ (c : ClassOf Name). text_eq d c.name) (map (map_class (name_at s.names)) (filter_map (class_at s) ks))
  among d [] l = refl
  among d (k ∷ ks) l = by (slice_get s.classes k) refl (among d ks l.1)
    where
      by : (o : Option ClassRec) → slice_get s.classes k ≡ o → list_any (has_text s d) ks ≡ list_any (λ (c : ClassOf Name). text_eq d c.name) (map (map_class (name_at s.names)) (filter_map (class_at s) ks))
          → (has_text s d k || list_any (has_text s d) ks) ≡ list_any (λ (c : ClassOf Name). text_eq d c.name) (map (map_class (name_at s.names)) (cons_option (class_at s k) (filter_map (class_at s) ks)))
      by None e h =
          (λ i. option_map_or (λ (c : ClassRec). text_eq d (name_at s.names c.name)) (cond (l.0 i) (e i) None) false || h i)
          ∙ ap (λ o. list_any (λ (c : ClassOf Name). text_eq d c.name) (map (map_class (name_at s.names)) (cons_option (option_map (class_of s.classes) o) (filter_map (class_at s) ks)))) (sym e)
      by (Some c) e h =
          (λ i. option_map_or (λ (c : ClassRec). text_eq d (name_at s.names c.name)) (cond (l.0 i) (e i) None) false || h i)
          ∙ ap (λ o. list_any (λ (c : ClassOf Name). text_eq d c.name) (map (map_class (name_at s.names)) (cons_option (option_map (class_of s.classes) o) (filter_map (class_at s) ks)))) (sym e)

  -- the name of a slot that is named
  named : (n k : ℕ) → is_named s.classes n k ≡ true → class_name s.classes k ≡ Some n
  named n k e = by (class_name s.classes k) e
    where
      by : (o : Option ℕ) → option_map_or (nat_eq n) o false ≡ true → o ≡ Some n
      by None q = absurd (true≢false (sym q))
      by (Some m) q = ap Some (sym (eqb-equal n m q))

module _ (s : Slots) (orderly : IsOrderly s) (d : Name) where
  abbrev test : ClassOf Name → Bool
  test c = text_eq d c.name

  abbrev classes : List (ClassOf Name)
  classes = (image_of s).classes

  abbrev numbers : List (ClassOf ℕ)
  numbers = (number_image s).classes

  abbrev bound : ℕ
  bound = length s.class_order

  -- the chain of a name that has a number
  chain_of_number : (n : ℕ) → n < length s.names → chain text_eq classes (Some (name_at s.names n)) ≡ map (map_class (name_at s.names)) (chain nat_eq numbers (Some n))
  chain_of_number n h =
      let keeps = KeepsWords-number_words s.names orderly.names_distinct in
      let known = orderly.names_known.classes in
      ap (chain_from text_eq classes) (class_of_name-map (λ n. n < length s.names) (name_at s.names) (number_words s.names) text_words keeps numbers (Some n) known h)
      ∙ chain_from-map (λ n. n < length s.names) (name_at s.names) (number_words s.names) text_words keeps numbers (class_of_name nat_eq numbers (Some n)) known
      (ClassNames-class_of_name (λ n. n < length s.names) (name_at s.names) (number_words s.names) text_words keeps numbers (Some n) known)

  from_slot : (n : ℕ) (o : Option ℕ) → named_in s.classes s.class_order n ≡ o
      → list_any (has_text s d) (upwards (next_above s) bound o) ≡ list_any test (map (map_class (name_at s.names)) (chain nat_eq numbers (Some n)))
  from_slot n None e =
      ap (list_any (has_text s d)) (upwards-none (next_above s) bound)
      ∙ sym (ap (λ o. list_any test (map (map_class (name_at s.names)) (chain_from nat_eq numbers o))) (class_named-named_in s n ∙ ap (option_and_then (class_at s)) e)
      ∙ ap (λ (cs : List (ClassOf ℕ)). list_any test (map (map_class (name_at s.names)) cs)) (upwards-none (superclass_of nat_eq numbers) (length numbers)))
  from_slot n (Some k) e =
      let fp = find-passes (is_named s.classes n) s.class_order k e in
      let ks : List ℕ = upwards (above s.classes s.class_order) bound (Some k) in
      let live : AllByRecursion (IsLive s.class_order) ks = upwards-all (IsLive s.class_order) (above s.classes s.class_order) (λ x p. above_live s x) bound (Some k) fp.1 in
      ap (list_any (has_text s d)) (same_walk s bound (Some k) fp.1)
      ∙ among s d ks live
      ∙ sym (ap (λ (cs : List (ClassOf ℕ)). list_any test (map (map_class (name_at s.names)) cs))
      (ap (chain nat_eq numbers) (sym (named s n k fp.0)) ∙ chain-live s orderly k fp.1 ∙ ap (λ b. filter_map (class_at s) (upwards (above s.classes s.class_order) bound (cond b (Some k) None))) fp.1))

  pub on_chain : (t : Name) → list_any (has_text s d) (upwards (next_above s) bound (slot_of_text s t)) ≡ list_any test (chain text_eq classes (Some t))
  on_chain t = by (number_in s.names t) refl
    where
      by : (o : Option ℕ) → number_in s.names t ≡ o → list_any (has_text s d) (upwards (next_above s) bound (option_and_then (named_in s.classes s.class_order) o)) ≡ list_any test (chain text_eq classes (Some t))
      by None e =
          ap (list_any (has_text s d)) (upwards-none (next_above s) bound)
          ∙ sym (ap (λ o. list_any test (chain_from text_eq classes o)) (none_named s.names t numbers e orderly.names_known.classes)
          ∙ ap (list_any test) (upwards-none (superclass_of text_eq classes) (length classes)))
      by (Some n) e =
          let h = holds s.names t n e in
          from_slot n (named_in s.classes s.class_order n) refl
          ∙ sym (ap (λ (u : Name). list_any test (chain text_eq classes (Some u))) h.1 ∙ ap (list_any test) (chain_of_number n h.0))
