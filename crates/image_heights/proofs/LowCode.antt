-- The heights of code by its slots, one slot after the other.
use Rattle.std.proofs.Common.{◌≡◌, ◌⊎◌, inl, inr, ◌<◌, ◌+◌, ℕ, zero, suc, Bool, true, false, true≢false, not, ◌||◌, ◌&&◌, nat_le, List, [], ◌∷◌, length, map, take, get_or, Option, None, Some, option_map, slice_get, refl, sym, ap, ◌∙◌}
use Rattle.std.specs.Prelude.{if◌then◌else◌, nat_eq}
use Rattle.std.specs.List.{list_all, list_any, cons_option}
use Rattle.std.specs.Option.{option_map_or}
use Rattle.std.proofs.lemmas.Option.{slice_get-get_or}
use Rattle.std.proofs.lemmas.List.Folds.{list_all-map, list_all_more, list_all_at}
use Rattle.rb_base.specs.Names.{name_at}
use Rattle.tree_model.proofs.Measures.{statements_height-map_statements}
use Rattle.st_tree.specs.View.{sequence_of}
use Rattle.st_tree.specs.declared.tree.Sequence.{Sequence}
use Rattle.image_model.specs.Image.{EntryOf, DoItOf, map_entry, map_doit}
use Rattle.class_table.specs.declared.record.MethodRec.{MethodRec}
use Rattle.class_table.specs.declared.record.DoIt.{DoIt}
use Rattle.class_table.specs.Slots.{Slots}
use Rattle.class_table.specs.Valid.{IsLive}
use Rattle.class_table.specs.View.{live, live_at, entry_of, doit_of, image_of}
use Rattle.class_table.proofs.Live.{IsLive-first, IsLive-rest, there, or_true, eqb-equal}
use Rattle.class_questions.proofs.AnyLive.{live_at-live}
use Rattle.command_model.specs.ParameterConditions.{is_low, is_shallow}
use Rattle.parameter_questions.specs.Questions.{is_high}
use Rattle.image_heights.specs.Low.{is_method_low, is_doit_low, is_low_method}

-- a test of each slot, and of each thing in them
all-agree : (p q : ℕ → Bool) (order : List ℕ) → ((k : ℕ) → IsLive order k → p k ≡ q k) → list_all p order ≡ list_all q order
all-agree p q [] same = refl
all-agree p q (k ∷ ks) same =
    let rest = all-agree p q ks (λ j h. same j (IsLive-rest j k ks h)) in
    λ i. same k (IsLive-first k ks) i && rest i

module _ {X : Type 0} (t : X → Bool) (xs : List X) where
  all-slots : (order : List ℕ) → list_all (λ k. option_map_or t (slice_get xs k) true) order ≡ list_all t (live xs order)
  all-slots [] = refl
  all-slots (k ∷ ks) = ap (λ (rest : Bool). option_map_or t (slice_get xs k) true && rest) (all-slots ks) ∙ by (slice_get xs k)
    where
      by : (o : Option X) → (option_map_or t o true && list_all t (live xs ks)) ≡ list_all t (cons_option o (live xs ks))
      by None = refl
      by (Some x) = refl

  pub all-live : (order : List ℕ) → list_all (λ k. option_map_or t (live_at xs order k) true) order ≡ list_all t (live xs order)
  all-live order =
      all-agree (λ k. option_map_or t (live_at xs order k) true) (λ k. option_map_or t (slice_get xs k) true) order (λ k l. ap (λ (o : Option X). option_map_or t o true) (live_at-live xs order k l))
      ∙ all-slots order

-- a test that is turned
turned : (a b : Bool) → not a ≡ b → a ≡ not b
turned true true e = absurd (cc)
turned true false e = refl
turned false true e = refl
turned false false e = absurd (cc)

-- a test that fails for one slot, and for one thing
and-false : (a b : Bool) → b ≡ false → (a && b) ≡ false
and-false true b f = f
and-false false b f = refl

live-false : (p : ℕ → Bool) (order : List ℕ) (k : ℕ) → IsLive order k → p k ≡ false → list_all p order ≡ false
live-false p [] k l f = absurd (true≢false (sym l))
live-false p (j ∷ js) k l f = by (or_true (nat_eq k j) (list_any (nat_eq k) js) l) (λ m. live-false p js k m f)
  where
    by : (nat_eq k j ≡ true) ⊎ (list_any (nat_eq k) js ≡ true) → (IsLive js k → list_all p js ≡ false) → list_all p (j ∷ js) ≡ false
    by (inl e) rest = ap (λ (b : Bool). b && list_all p js) (ap p (sym (eqb-equal k j e)) ∙ f)
    by (inr m) rest = and-false (p j) (list_all p js) (rest m)

item-false : {X : Type 0} (p : X → Bool) (xs : List X) (n : ℕ) (x : X) → slice_get xs n ≡ Some x → p x ≡ false → list_all p xs ≡ false
item-false p [] n x e f = absurd (cc)
item-false p (y ∷ ys) zero x e f = let same : y ≡ x = cc in ap (λ (b : Bool). b && list_all p ys) (ap p same ∙ f)
item-false p (y ∷ ys) (suc n) x e f = and-false (p y) (list_all p ys) (item-false p ys n x e f)

-- a slot that holds something is live
slot-live : {X : Type 0} (xs : List X) (order : List ℕ) (k : ℕ) (x : X) → live_at xs order k ≡ Some x → IsLive order k
slot-live {X} xs order k x e = by (list_any (nat_eq k) order) refl e
  where
    by : (b : Bool) → list_any (nat_eq k) order ≡ b → (if b then slice_get xs k else None) ≡ Some x → IsLive order k
    by true is f = is
    by false is f = absurd (cc)

-- the tests of the image are those of its slots
module _ (s : Slots) where
  abbrev text : ℕ → List ℕ
  text = name_at s.names

  abbrev low_entry : EntryOf (List ℕ) → Bool
  low_entry m = m.kernel || is_low m.tree.body

  abbrev low_doit : DoItOf (List ℕ) → Bool
  low_doit d = is_low d.body

  methods-low : list_all low_entry (image_of s).methods ≡ list_all (is_low_method s) s.method_order
  methods-low =
      let recs = live s.methods s.method_order in
      list_all-map low_entry (map_entry text) (map (entry_of s.classes) recs) ∙ list_all-map (λ (m : EntryOf ℕ). low_entry (map_entry text m)) (entry_of s.classes) recs
      ∙ (λ j. list_all (λ (m : MethodRec). m.kernel || nat_le (statements_height-map_statements text (sequence_of m.tree.body).statements j) 200) recs)
      ∙ sym (all-live is_method_low s.methods s.method_order)

  doits-low : list_all low_doit (image_of s).doits ≡ list_all is_doit_low s.doits
  doits-low =
      list_all-map low_doit (map_doit text) (map doit_of s.doits) ∙ list_all-map (λ (d : DoItOf ℕ). low_doit (map_doit text d)) doit_of s.doits
      ∙ (λ j. list_all (λ (d : DoIt). nat_le (statements_height-map_statements text (sequence_of d.body).statements j) 200) s.doits)

  -- where both are met, and where one of them fails
  image-by : (a b : Bool) → list_all (is_low_method s) s.method_order ≡ a → list_all is_doit_low s.doits ≡ b → (a && b) ≡ is_shallow (image_of s)
  image-by a b e f = sym (λ i. (methods-low ∙ e) i && (doits-low ∙ f) i)

  pub all-low : list_all (is_low_method s) s.method_order ≡ true → list_all is_doit_low s.doits ≡ true → true ≡ is_shallow (image_of s)
  all-low e f = image-by true true e f

  pub high-method : (order : List ℕ) (k n : ℕ) → order ≡ s.method_order → k < length order → n ≡ get_or order k n → is_low_method s n ≡ false → false ≡ is_shallow (image_of s)
  high-method order k n same l at high =
      image-by false (list_all is_doit_low s.doits) (ap (list_all (is_low_method s)) (sym same) ∙ list_all_at (is_low_method s) order k n l (ap (is_low_method s) (sym at) ∙ high)) refl

  -- a method of a user that is too high, and a do-it
  pub live-high : (k : ℕ) (m : MethodRec) → live_at s.methods s.method_order k ≡ Some m → m.kernel ≡ false → is_high (sequence_of m.tree.body) ≡ true → is_shallow (image_of s) ≡ false
  live-high k m there user high =
      let too : is_low_method s k ≡ false =
      ap (λ (o : Option MethodRec). option_map_or is_method_low o true) there ∙ (λ i. user i || turned (is_low (sequence_of m.tree.body)) true high i) in
      sym (image-by false (list_all is_doit_low s.doits) (live-false (is_low_method s) s.method_order k (slot-live s.methods s.method_order k m there) too) refl)

  pub item-high : (n : ℕ) (d : DoIt) → slice_get s.doits n ≡ Some d → is_high (sequence_of d.body) ≡ true → is_shallow (image_of s) ≡ false
  item-high n d there high =
      let methods : Bool = list_all (is_low_method s) s.method_order in
      sym (image-by methods false refl (item-false is_doit_low s.doits n d there (turned (is_low (sequence_of d.body)) true high))) ∙ and-false methods false refl

  -- a do-it
  module _ (k : ℕ) (l : k < length s.doits) where
    doit-there : (d : DoIt) × (d ≡ get_or s.doits k d) × (slice_get s.doits k ≡ Some d)
    doit-there =
        let w = there s.doits k l in
        let at = slice_get-get_or s.doits k w.0 l in
        let same : w.0 ≡ get_or s.doits k w.0 = let e : Some w.0 ≡ Some (get_or s.doits k w.0) = sym w.1 ∙ at in cc in
        (w.0, same, w.1)

    opened : (b : Sequence) → Some b ≡ option_map (λ (d : DoIt). d.body) (slice_get s.doits k) → b ≡ doit-there.0.body
    opened b e =
        let same : Some b ≡ Some doit-there.0.body = e ∙ ap (option_map (λ (d : DoIt). d.body)) doit-there.2 in
        cc

    pub high-doit : (b : Sequence) → list_all (is_low_method s) s.method_order ≡ true → Some b ≡ option_map (λ (d : DoIt). d.body) (slice_get s.doits k) → is_high (sequence_of b) ≡ true → false ≡ is_shallow (image_of s)
    high-doit b low e high =
        let d = doit-there.0 in
        let too : is_doit_low d ≡ false = ap (λ (c : Sequence). is_low (sequence_of c)) (sym (opened b e)) ∙ turned (is_low (sequence_of b)) true high in
        image-by true false low (list_all_at is_doit_low s.doits k d l (ap is_doit_low (sym doit-there.1) ∙ too))

    pub next-doit : (b : Sequence) → Some b ≡ option_map (λ (d : DoIt). d.body) (slice_get s.doits k) → is_high (sequence_of b) ≡ false → list_all is_doit_low (take k s.doits) ≡ true → list_all is_doit_low (take (k + 1) s.doits) ≡ true
    next-doit b e low so_far =
        let d = doit-there.0 in
        let fits : is_doit_low d ≡ true = ap (λ (c : Sequence). is_low (sequence_of c)) (sym (opened b e)) ∙ turned (is_low (sequence_of b)) false low in
        list_all_more is_doit_low s.doits k d l ∙ (λ i. so_far i && (ap is_doit_low (sym doit-there.1) ∙ fits) i)

    pub no-doit : None ≡ option_map (λ (d : DoIt). d.body) (slice_get s.doits k) → ⊥
    no-doit e =
        let none : None ≡ Some doit-there.0.body = e ∙ ap (option_map (λ (d : DoIt). d.body)) doit-there.2 in
        cc
