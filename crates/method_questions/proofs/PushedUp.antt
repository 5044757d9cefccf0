-- Which method each class itself has once a method has gone up.
use Rattle.std.proofs.Common.{◌≡◌, ℕ, Bool, true, false, cond, ◌&&◌, ◌||◌, map, find, Option, Some, None, option_map, slice_get, refl, sym, ap, ◌∙◌, true≢false}
use Rattle.std.specs.Prelude.{nat_eq}
use Rattle.std.specs.Bool.{beq}
use Rattle.std.specs.Option.{option_map_or, option_and_then}
use Rattle.std.proofs.Math.Dec.{eqb}
use Rattle.std.proofs.Math.Bool.{and-true, and-false}
use Rattle.std.proofs.lemmas.Bool.{and_parts}
use Rattle.image_model.specs.Image.{EntryOf, ImageOf}
use Rattle.image_model.specs.Lookup.{is_method, own_method}
use Rattle.class_table.specs.declared.record.ClassRec.{ClassRec}
use Rattle.class_table.specs.declared.record.MethodRec.{MethodRec}
use Rattle.class_table.specs.Slots.{Slots}
use Rattle.class_table.specs.View.{entry_of, entry_at, number_image}
use Rattle.class_table.specs.Valid.{IsLive, IsOrderly}
use Rattle.class_table.specs.Finding.{is_method_in, same_key}
use Rattle.class_table.proofs.Live.{eqb-refl, eqb-equal, find-agree, find-passes, find-live}
use Rattle.command_model.specs.MethodEffects.{of_class_named}
use Rattle.method_questions.specs.declared.found.Found.{Found}
use Rattle.method_questions.specs.declared.moves.Way.TheVariants as way
use Rattle.method_questions.specs.declared.moves.Moved.{Moved}
use Rattle.method_questions.specs.declared.moves.After.TheVariants as after
use Rattle.method_questions.specs.Found.{bare_entry, as_entry, opened_at, own_slot}
use Rattle.method_questions.specs.Moves.{there, comes_first, own_after, after_entry}
use Rattle.method_questions.proofs.OwnMethods.{key, sides-equal, Holds, own-keyed, own-holds, opened-holds, method-test}
use Rattle.method_questions.proofs.Inherited.{find-nothing}
use Rattle.method_questions.proofs.Classes.{classes-agree}
use Rattle.method_questions.proofs.AfterFacts.{there-read}
use Rattle.method_questions.proofs.MovedImages.{IsMove}
use Rattle.method_questions.proofs.Firsts.{find-mapped, find-unchanged, comes-first, other-first}

-- a method that goes up from a class, and the class above that
pub record GoesUp (s : Slots) (found : Found) (selector above y : ℕ) (c d : ClassRec) : Type 0 where
  pub live : IsLive s.class_order found.class
  pub class : slice_get s.classes found.class ≡ Some c
  pub above_live : IsLive s.class_order above
  pub above_class : slice_get s.classes above ≡ Some d
  pub own : own_slot s found.class found.meta selector ≡ Some y
  pub method : opened_at s y ≡ Some (as_entry s.classes found)

module _ (s : Slots) (orderly : IsOrderly s) (found : Found) (selector above y : ℕ) (c d : ClassRec) (up : GoesUp s found selector above y c d) where
  abbrev image : ImageOf ℕ
  image = number_image s

  -- whether a slot holds the method of a class
  abbrev at : ℕ → ℕ → Bool
  at a q = is_method_in s.methods (key a found.meta selector) q

  -- whether a method is the one that goes up
  abbrev goes : EntryOf ℕ → Bool
  goes m = is_method nat_eq c.name found.meta selector m

  -- what becomes of a method
  abbrev pub raised : EntryOf ℕ → EntryOf ℕ
  raised m = cond (goes m) (of_class_named m d.name) m

  -- what moves
  abbrev pub going : Moved
  going = record { method = found; selector = selector; way = way.Up above (comes_first s.method_order y (own_slot s above found.meta selector)) }

  pub found-own : find (at found.class) s.method_order ≡ Some y
  found-own = sym (own-keyed s selector found.class found.meta up.live) ∙ up.own

  module _ (k : ℕ) (r : ClassRec) (l : IsLive s.class_order k) (e : slice_get s.classes k ≡ Some r) where
    -- whether a method is the class's afterwards
    abbrev test : EntryOf ℕ → Bool
    test m = is_method nat_eq r.name found.meta selector (raised m)

    -- the same, of the method in a slot
    abbrev slot-test : ℕ → Bool
    slot-test q = cond (at found.class q) (nat_eq k above) (at k q)

    raised-test : (m : EntryOf ℕ) → test m ≡ cond (goes m) (nat_eq k above) (is_method nat_eq r.name found.meta selector m)
    raised-test m = by (goes m) refl
      where
        by : (b : Bool) → goes m ≡ b → is_method nat_eq r.name found.meta selector (cond b (of_class_named m d.name) m) ≡ cond b (nat_eq k above) (is_method nat_eq r.name found.meta selector m)
        by false g = refl
        by true g =
            let a = and_parts (option_map_or (nat_eq c.name) m.class false && beq found.meta m.meta) (nat_eq selector m.tree.selector) g in
            let b = and_parts (option_map_or (nat_eq c.name) m.class false) (beq found.meta m.meta) a.0 in
            (λ i. (nat_eq r.name d.name && b.1 i) && a.1 i) ∙ (and-true (nat_eq r.name d.name && true) ∙ and-true (nat_eq r.name d.name)) ∙ classes-agree s orderly k above r d l e up.above_live up.above_class

    agrees : (q : ℕ) → IsLive s.method_order q → (o : Option MethodRec) → slice_get s.methods q ≡ o
        → option_map_or (λ x. test (entry_of s.classes x)) o false
        ≡ cond (option_map_or (same_key (key found.class found.meta selector)) (option_map (λ (m : MethodRec). key m.class m.meta m.tree.selector) o) false) (nat_eq k above) (option_map_or (same_key (key k found.meta selector)) (option_map (λ (m : MethodRec). key m.class m.meta m.tree.selector) o) false)
    agrees q n None h = refl
    agrees q n (Some m) h =
        raised-test (entry_of s.classes m)
        ∙ (λ i. cond (method-test s orderly found.meta selector found.class c up.live up.class q n (Some m) h i) (nat_eq k above) (method-test s orderly found.meta selector k r l e q n (Some m) h i))

    -- the method that the class has afterwards, from the slot of the first that passes
    own-raised : own_method nat_eq (map raised image.methods) r.name found.meta selector ≡ option_map raised (option_and_then (entry_at s) (find slot-test s.method_order))
    own-raised =
        find-mapped raised (is_method nat_eq r.name found.meta selector) image.methods
        ∙ ap (option_map raised) (sym (find-live (entry_of s.classes) test s.methods s.method_order)
        ∙ ap (option_and_then (entry_at s)) (find-agree (λ q. option_map_or (λ x. test (entry_of s.classes x)) (slice_get s.methods q) false) slot-test s.method_order (λ q n. agrees q n (slice_get s.methods q) refl)))

    -- a method that stays
    stays : (z : ℕ) → Holds s selector z → at found.class z ≡ false → option_map bare_entry (option_map raised (entry_at s z)) ≡ opened_at s z
    stays z h n =
        ap (λ (o : Option MethodRec). option_map bare_entry (option_map raised (option_map (entry_of s.classes) o))) h.there
        ∙ ap (λ (b : Bool). Some (bare_entry (cond b (of_class_named (entry_of s.classes h.method) d.name) (entry_of s.classes h.method)))) (whether ∙ n)
        ∙ sym (opened-holds s orderly found.meta selector z h)
      where
        whether : goes (entry_of s.classes h.method) ≡ at found.class z
        whether =
            method-test s orderly found.meta selector found.class c up.live up.class z h.live (Some h.method) h.there
            ∙ sym (ap (λ o. option_map_or (same_key (key found.class found.meta selector)) (option_map (λ (m : MethodRec). key m.class m.meta m.tree.selector) o) false) h.there)

    -- the method that goes
    pub goes-up : option_map bare_entry (option_map raised (entry_at s y)) ≡ Some (as_entry s.classes (record found { class = above }))
    goes-up =
        ap (λ (o : Option MethodRec). option_map bare_entry (option_map raised (option_map (entry_of s.classes) o))) holds.there
        ∙ ap (λ (b : Bool). Some (bare_entry (cond b (of_class_named (entry_of s.classes holds.method) d.name) (entry_of s.classes holds.method)))) (whether ∙ (find-passes (at found.class) s.method_order y found-own).0)
        ∙ by (sym (opened-holds s orderly found.meta selector y holds) ∙ up.method)
      where
        holds : Holds s selector y
        holds = own-holds s orderly found.meta selector found.class y up.own

        whether : goes (entry_of s.classes holds.method) ≡ at found.class y
        whether =
            method-test s orderly found.meta selector found.class c up.live up.class y holds.live (Some holds.method) holds.there
            ∙ sym (ap (λ o. option_map_or (same_key (key found.class found.meta selector)) (option_map (λ (m : MethodRec). key m.class m.meta m.tree.selector) o) false) holds.there)

        by : Some (bare_entry (entry_of s.classes holds.method)) ≡ Some (as_entry s.classes found) → Some (bare_entry (of_class_named (entry_of s.classes holds.method) d.name)) ≡ Some (as_entry s.classes (record found { class = above }))
        by q =
            let is : bare_entry (entry_of s.classes holds.method) ≡ as_entry s.classes found = cc in
            ap (λ (m : EntryOf ℕ). Some (record m { class = Some d.name })) is
            ∙ sym (ap (λ (o : Option ℕ). Some (record (as_entry s.classes found) { class = o })) (ap (option_map (λ (x : ClassRec). x.name)) up.above_class))

    -- what the class itself has
    abbrev own-now : Option ℕ
    own-now = own_slot s k found.meta selector

    pub own-found : find (at k) s.method_order ≡ own-now
    own-found = sym (own-keyed s selector k found.meta l)

    -- the class above
    above-told : (b : Bool) → comes_first s.method_order y (own_slot s above found.meta selector) ≡ b → k ≡ above
        → option_map bare_entry (option_map raised (option_and_then (entry_at s) (find (λ q. at found.class q || at k q) s.method_order))) ≡ option_and_then (after_entry s going) (cond b (Some (after.Comes k)) (there own-now))
    above-told true f same =
        ap (λ o. option_map bare_entry (option_map raised (option_and_then (entry_at s) o))) (comes-first (at found.class) (at k) s.method_order y found-own (ap (comes_first s.method_order y) (own-found ∙ ap (λ x. own_slot s x found.meta selector) same) ∙ f))
        ∙ goes-up
        ∙ ap (λ x. Some (as_entry s.classes (record found { class = x }))) (sym same)
    above-told false f same =
        let other = other-first (at found.class) (at k) s.method_order y found-own (ap (comes_first s.method_order y) (own-found ∙ ap (λ x. own_slot s x found.meta selector) same) ∙ f) in
        let own : own-now ≡ Some other.slot = sym own-found ∙ other.second in
        ap (λ o. option_map bare_entry (option_map raised (option_and_then (entry_at s) o))) other.either
        ∙ stays other.slot (own-holds s orderly found.meta selector k other.slot own) other.alone
        ∙ sym (ap (λ o. option_and_then (after_entry s going) (there o)) own)

    -- the class that the method leaves has none
    pub leaves : k ≡ found.class → find (λ q. cond (at found.class q) false (at k q)) s.method_order ≡ None
    leaves same = find-agree (λ q. cond (at found.class q) false (at k q)) (λ q. false) s.method_order (λ q n. ap (λ x. cond (at found.class q) false (at x q)) same ∙ never (at found.class q)) ∙ find-nothing s.method_order
      where
        never : (b : Bool) → cond b false b ≡ false
        never true = refl
        never false = refl

    -- a slot holds the method of one class
    one-class : (q : ℕ) → at found.class q ≡ true → at k q ≡ true → k ≡ found.class
    one-class q t u = by (slice_get s.methods q) t u
      where
        by : (o : Option MethodRec) → option_map_or (same_key (key found.class found.meta selector)) (option_map (λ (m : MethodRec). key m.class m.meta m.tree.selector) o) false ≡ true
            → option_map_or (same_key (key k found.meta selector)) (option_map (λ (m : MethodRec). key m.class m.meta m.tree.selector) o) false ≡ true → k ≡ found.class
        by None g h = absurd (true≢false (sym g))
        by (Some m) g h = eqb-equal k m.class (and_parts (nat_eq k m.class) _ h).0 ∙ sym (eqb-equal found.class m.class (and_parts (nat_eq found.class m.class) _ g).0)

    -- each other class has what it had
    apart : nat_eq k found.class ≡ false → (q : ℕ) → at k q ≡ true → (b : Bool) → at found.class q ≡ b → b ≡ false
    apart n q t false g = refl
    apart n q t true g = absurd (true≢false (sym (ap (nat_eq k) (sym (one-class q g t)) ∙ eqb-refl k) ∙ n))

    pub keeps : nat_eq k found.class ≡ false → find (λ q. cond (at found.class q) false (at k q)) s.method_order ≡ own-now
    keeps n = find-agree (λ q. cond (at found.class q) false (at k q)) (at k) s.method_order (λ q h. by q (at k q) refl) ∙ own-found
      where
        none : (b : Bool) → cond b false false ≡ false
        none true = refl
        none false = refl

        by : (q : ℕ) (b : Bool) → at k q ≡ b → cond (at found.class q) false b ≡ b
        by q true t = ap (λ (b : Bool). cond b false true) (apart n q t (at found.class q) refl)
        by q false t = none (at found.class q)

    pub kept : nat_eq k found.class ≡ false → (o : Option ℕ) → own-now ≡ o → option_map bare_entry (option_map raised (option_and_then (entry_at s) o)) ≡ option_and_then (opened_at s) o
    kept n None e = refl
    kept n (Some z) e = stays z (own-holds s orderly found.meta selector k z e) (apart n z (find-passes (at k) s.method_order z (own-found ∙ e)).0 (at found.class z) refl)

    -- whichever it is
    own-told : option_map bare_entry (own_method nat_eq (map raised image.methods) r.name found.meta selector) ≡ option_and_then (after_entry s going) (own_after s going k)
    unfolding own_after
    own-told = ap (option_map bare_entry) own-raised ∙ by (nat_eq k above) refl (nat_eq k found.class) refl
      where
        either : (b c : Bool) → cond b true c ≡ (b || c)
        either true c = refl
        either false c = refl

        by : (b : Bool) → nat_eq k above ≡ b → (x : Bool) → nat_eq k found.class ≡ x
            → option_map bare_entry (option_map raised (option_and_then (entry_at s) (find (λ q. cond (at found.class q) b (at k q)) s.method_order)))
            ≡ option_and_then (after_entry s going) (cond b (cond (comes_first s.method_order y (own_slot s above found.meta selector)) (Some (after.Comes k)) (there own-now)) (cond x None (there own-now)))
        by true t x h =
            ap (λ o. option_map bare_entry (option_map raised (option_and_then (entry_at s) o))) (find-agree (λ q. cond (at found.class q) true (at k q)) (λ q. at found.class q || at k q) s.method_order (λ q n. either (at found.class q) (at k q)))
            ∙ above-told (comes_first s.method_order y (own_slot s above found.meta selector)) refl (eqb-equal k above t)
        by false t true h = ap (λ o. option_map bare_entry (option_map raised (option_and_then (entry_at s) o))) (leaves (eqb-equal k found.class h))
        by false t false h = ap (λ o. option_map bare_entry (option_map raised (option_and_then (entry_at s) o))) (keeps h) ∙ kept h own-now refl ∙ there-read s going own-now

  -- on the other side nothing changes
  other-side : found.meta ≡ true → (n : ℕ) → own_method nat_eq (map raised image.methods) n false selector ≡ own_method nat_eq image.methods n false selector
  other-side t n = find-unchanged raised (is_method nat_eq n false selector) same unchanged image.methods
    where
      off : (m : EntryOf ℕ) → goes m ≡ true → (o : Option ℕ) → is_method nat_eq n false selector (record m { class = o }) ≡ false
      off m g o =
          let a = and_parts (option_map_or (nat_eq c.name) m.class false && beq found.meta m.meta) (nat_eq selector m.tree.selector) g in
          let b = and_parts (option_map_or (nat_eq c.name) m.class false) (beq found.meta m.meta) a.0 in
          (λ i. (option_map_or (nat_eq n) o false && beq false ((sym (sides-equal found.meta m.meta b.1) ∙ t) i)) && nat_eq selector m.tree.selector)
          ∙ ap (λ (x : Bool). x && nat_eq selector m.tree.selector) (and-false (option_map_or (nat_eq n) o false))

      same : (m : EntryOf ℕ) → is_method nat_eq n false selector (raised m) ≡ is_method nat_eq n false selector m
      same m = by (goes m) refl
        where
          by : (b : Bool) → goes m ≡ b → is_method nat_eq n false selector (cond b (of_class_named m d.name) m) ≡ is_method nat_eq n false selector m
          by false g = refl
          by true g = off m g (Some d.name) ∙ sym (off m g m.class)

      unchanged : (m : EntryOf ℕ) → is_method nat_eq n false selector m ≡ true → raised m ≡ m
      unchanged m h = by (goes m) refl
        where
          by : (b : Bool) → goes m ≡ b → cond b (of_class_named m d.name) m ≡ m
          by false g = refl
          by true g = absurd (true≢false (sym h ∙ off m g m.class))

  pub is-move : IsMove s going (map raised image.methods)
  is-move = record { own = own-told; other = other-side }
