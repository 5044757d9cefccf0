-- Which method each class itself has once a method has gone down.
use Rattle.std.proofs.Common.{◌≡◌, ℕ, Bool, true, false, cond, ◌&&◌, ◌||◌, List, [], ◌∷◌, map, filter, find, Option, Some, None, is_none, option_map, slice_get, refl, sym, ap, ◌∙◌, true≢false}
use Rattle.std.specs.Prelude.{nat_eq}
use Rattle.std.specs.Bool.{beq}
use Rattle.std.specs.List.{list_any, flat_map}
use Rattle.std.specs.Option.{option_map_or, option_and_then, option_or}
use Rattle.std.proofs.Math.Bool.{and-true, and-false}
use Rattle.std.proofs.lemmas.Bool.{and_parts, and_from}
use Rattle.std.proofs.lemmas.List.Folds.{find-append}
use Rattle.image_model.specs.Image.{ClassOf, EntryOf, ImageOf}
use Rattle.image_model.specs.Lookup.{is_method, own_method}
use Rattle.class_table.specs.declared.record.ClassRec.{ClassRec}
use Rattle.class_table.specs.declared.record.MethodRec.{MethodRec}
use Rattle.class_table.specs.Slots.{Slots}
use Rattle.class_table.specs.View.{class_name, class_of, entry_of, entry_at, live_at, number_image}
use Rattle.class_table.specs.Valid.{IsLive, IsOrderly}
use Rattle.class_table.specs.Finding.{is_method_in, same_key}
use Rattle.class_table.proofs.Live.{eqb-refl, eqb-equal, find-agree, find-live, there}
use Rattle.class_questions.proofs.AnyLive.{live_at-live, live-live_at, any_live}
use Rattle.code_questions.proofs.Witnesses.{same-truth, passing-live, passes-live, any-mapped}
use Rattle.command_model.specs.Hierarchy.{is_child, receivers}
use Rattle.command_model.specs.MethodEffects.{of_class_named}
use Rattle.method_questions.specs.declared.found.Found.{Found}
use Rattle.method_questions.specs.declared.moves.Way.TheVariants as way
use Rattle.method_questions.specs.declared.moves.Moved.{Moved}
use Rattle.method_questions.specs.declared.moves.After.TheVariants as after
use Rattle.method_questions.specs.Found.{bare_entry, as_entry, opened_at, own_slot}
use Rattle.method_questions.specs.Moves as moves
use Rattle.method_questions.specs.Moves.{own_after, after_entry}
use Rattle.method_questions.proofs.Classes.{classes-agree}
use Rattle.method_questions.proofs.OwnMethods.{key, sides-equal, own-method, own-holds, method-test}
use Rattle.method_questions.proofs.AfterFacts.{there-read}
use Rattle.method_questions.proofs.MovedImages.{IsMove}
use Rattle.method_questions.proofs.Firsts.{one-alone}
use Rattle.method_questions.proofs.PushedUp.{GoesUp, found-own, goes-up, own-found, leaves, keeps, kept}

-- searches in lists of lists
find-spread : {X : Type 0} (g : X → List X) (t h : X → Bool) (f : X → X) → ((x : X) → find t (g x) ≡ cond (h x) (Some (f x)) None) → (xs : List X) → find t (flat_map g xs) ≡ option_map f (find h xs)
find-spread g t h f each [] = refl
find-spread g t h f each (x ∷ xs) =
    find-append t (g x) (flat_map g xs) ∙ (λ i. option_or (each x i) (find-spread g t h f each xs i)) ∙ by (h x)
  where
    by : (b : Bool) → option_or (cond b (Some (f x)) None) (option_map f (find h xs)) ≡ option_map f (cond b (Some x) (find h xs))
    by true = refl
    by false = refl

unchanged : {X : Type 0} (o : Option X) → option_map (λ (x : X). x) o ≡ o
unchanged None = refl
unchanged (Some x) = refl

-- an item that passes two tests
any-filtered : {X : Type 0} (t p : X → Bool) (xs : List X) → list_any p (filter t xs) ≡ list_any (λ x. t x && p x) xs
any-filtered t p [] = refl
any-filtered t p (x ∷ xs) = by (t x) (any-filtered t p xs)
  where
    by : (b : Bool) → list_any p (filter t xs) ≡ list_any (λ y. t y && p y) xs → list_any p (cond b (x ∷ filter t xs) (filter t xs)) ≡ ((b && p x) || list_any (λ y. t y && p y) xs)
    by true rest = ap (λ (b : Bool). p x || b) rest
    by false rest = rest

-- a method that goes down from a class
pub record GoesDown (s : Slots) (found : Found) (selector y : ℕ) (c : ClassRec) : Type 0 where
  pub live : IsLive s.class_order found.class
  pub class : slice_get s.classes found.class ≡ Some c
  pub own : own_slot s found.class found.meta selector ≡ Some y
  pub method : opened_at s y ≡ Some (as_entry s.classes found)

module _ (s : Slots) (orderly : IsOrderly s) (found : Found) (selector y : ℕ) (c : ClassRec) (down : GoesDown s found selector y c) where
  abbrev image : ImageOf ℕ
  image = number_image s

  abbrev at : ℕ → ℕ → Bool
  at a q = is_method_in s.methods (key a found.meta selector) q

  abbrev goes : EntryOf ℕ → Bool
  goes m = is_method nat_eq c.name found.meta selector m

  -- what comes in place of a method
  abbrev pub lowered : EntryOf ℕ → List (EntryOf ℕ)
  lowered m = cond (goes m) (map (of_class_named m) (receivers nat_eq image c.name found.meta selector)) (m ∷ [])

  abbrev pub sinking : Moved
  sinking = record { method = found; selector = selector; way = way.Down }

  module _ (k : ℕ) (r : ClassRec) (l : IsLive s.class_order k) (e : slice_get s.classes k ≡ Some r) where
    -- the same as a method that goes to this class
    abbrev to : GoesUp s found selector k y c r
    to = record { live = down.live; class = down.class; above_live = l; above_class = e; own = down.own; method = down.method }

    abbrev own-now : Option ℕ
    own-now = own_slot s k found.meta selector

    abbrev raised : EntryOf ℕ → EntryOf ℕ
    raised m = cond (goes m) (of_class_named m r.name) m

    -- whether the class gets a copy
    abbrev gets : Bool
    gets = list_any (nat_eq r.name) (receivers nat_eq image c.name found.meta selector)

    abbrev receives : ClassOf ℕ → Bool
    receives d = is_child nat_eq c.name d && is_none (own_method nat_eq image.methods d.name found.meta selector)

    gets-receives : gets ≡ receives (class_of s.classes r)
    gets-receives =
        any-mapped (λ (d : ClassOf ℕ). d.name) (nat_eq r.name) (filter receives image.classes)
        ∙ any-filtered receives (λ (d : ClassOf ℕ). nat_eq r.name d.name) image.classes
        ∙ sym (any_live (class_of s.classes) (λ (d : ClassOf ℕ). receives d && nat_eq r.name d.name) s.classes s.class_order)
        ∙ same-truth (list_any slot s.class_order) (receives (class_of s.classes r)) only some
      where
        slot : ℕ → Bool
        slot q = option_map_or (λ (x : ClassRec). receives (class_of s.classes x) && nat_eq r.name x.name) (live_at s.classes s.class_order q) false

        some : receives (class_of s.classes r) ≡ true → list_any slot s.class_order ≡ true
        some t =
            passes-live slot s.class_order k l
            (ap (λ (o : Option ClassRec). option_map_or (λ (x : ClassRec). receives (class_of s.classes x) && nat_eq r.name x.name) o false) (live_at-live s.classes s.class_order k l ∙ e)
            ∙ and_from _ _ t (eqb-refl r.name))

        by : (q : ℕ) → (o : Option ClassRec) → live_at s.classes s.class_order q ≡ o → option_map_or (λ (x : ClassRec). receives (class_of s.classes x) && nat_eq r.name x.name) o false ≡ true → receives (class_of s.classes r) ≡ true
        by q None h t = absurd (true≢false (sym t))
        by q (Some x) h t =
            let parts = and_parts (receives (class_of s.classes x)) (nat_eq r.name x.name) t in
            let slot-there = live-live_at s.classes s.class_order q x h in
            let one : k ≡ q = eqb-equal k q (sym (classes-agree s orderly k q r x l e slot-there.0 slot-there.1) ∙ parts.1) in
            let both : Some x ≡ Some r = sym slot-there.1 ∙ (ap (slice_get s.classes) (sym one) ∙ e) in
            let same : x ≡ r = cc in
            ap (λ (z : ClassRec). receives (class_of s.classes z)) (sym same) ∙ parts.0

        only : list_any slot s.class_order ≡ true → receives (class_of s.classes r) ≡ true
        only t = let w = passing-live slot s.class_order t in by w.0 (live_at s.classes s.class_order w.0) refl w.2

    child-told : is_child nat_eq c.name (class_of s.classes r) ≡ moves.is_below s k found.class
    child-told =
        by r.superclass refl
        ∙ sym (ap (λ (o : Option ClassRec). option_map_or (λ (x : ClassRec). option_map_or (nat_eq found.class) x.superclass false) o false) (live_at-live s.classes s.class_order k l ∙ e))
      where
        by : (o : Option ℕ) → r.superclass ≡ o → option_map_or (nat_eq c.name) (option_and_then (class_name s.classes) o) false ≡ option_map_or (nat_eq found.class) o false
        by None q = refl
        by (Some j) q =
            let m = orderly.superclasses_live j k r l e q in
            let d = there s.classes j (orderly.class_order.below j m) in
            ap (λ (o : Option ClassRec). option_map_or (nat_eq c.name) (option_map (λ (x : ClassRec). x.name) o) false) d.1
            ∙ classes-agree s orderly found.class j c d.0 down.live down.class m d.1

    none-told : is_none (own_method nat_eq image.methods r.name found.meta selector) ≡ is_none own-now
    none-told = sym (ap is_none (own-method s orderly found.meta selector k r l e)) ∙ by own-now refl
      where
        by : (o : Option ℕ) → own-now ≡ o → is_none (option_and_then (entry_at s) o) ≡ is_none o
        by None q = refl
        by (Some z) q = ap (λ (x : Option MethodRec). is_none (option_map (entry_of s.classes) x)) (own-holds s orderly found.meta selector k z q).there

    gets-told : gets ≡ (moves.is_below s k found.class && is_none own-now)
    gets-told = gets-receives ∙ (λ i. child-told i && none-told i)

    -- copies of the method
    copies : (m : EntryOf ℕ) → goes m ≡ true → (ps : List ℕ) → find (is_method nat_eq r.name found.meta selector) (map (of_class_named m) ps) ≡ cond (list_any (nat_eq r.name) ps) (Some (of_class_named m r.name)) None
    copies m g [] = refl
    copies m g (p ∷ ps) = ap (λ (b : Bool). cond b (Some (of_class_named m p)) (find (is_method nat_eq r.name found.meta selector) (map (of_class_named m) ps))) passes ∙ by (nat_eq r.name p) refl (copies m g ps)
      where
        passes : is_method nat_eq r.name found.meta selector (of_class_named m p) ≡ nat_eq r.name p
        passes =
            let a = and_parts (option_map_or (nat_eq c.name) m.class false && beq found.meta m.meta) (nat_eq selector m.tree.selector) g in
            let b = and_parts (option_map_or (nat_eq c.name) m.class false) (beq found.meta m.meta) a.0 in
            (λ i. (nat_eq r.name p && b.1 i) && a.1 i) ∙ (and-true (nat_eq r.name p && true) ∙ and-true (nat_eq r.name p))

        by : (b : Bool) → nat_eq r.name p ≡ b → find (is_method nat_eq r.name found.meta selector) (map (of_class_named m) ps) ≡ cond (list_any (nat_eq r.name) ps) (Some (of_class_named m r.name)) None
            → cond b (Some (of_class_named m p)) (find (is_method nat_eq r.name found.meta selector) (map (of_class_named m) ps)) ≡ cond (b || list_any (nat_eq r.name) ps) (Some (of_class_named m r.name)) None
        by true t rest = ap (λ x. Some (of_class_named m x)) (sym (eqb-equal r.name p t))
        by false t rest = rest

    each : (m : EntryOf ℕ) → find (is_method nat_eq r.name found.meta selector) (lowered m) ≡ cond (cond (goes m) gets (is_method nat_eq r.name found.meta selector m)) (Some (raised m)) None
    each m = by (goes m) refl
      where
        by : (b : Bool) → goes m ≡ b → find (is_method nat_eq r.name found.meta selector) (cond b (map (of_class_named m) (receivers nat_eq image c.name found.meta selector)) (m ∷ []))
            ≡ cond (cond b gets (is_method nat_eq r.name found.meta selector m)) (Some (cond b (of_class_named m r.name) m)) None
        by true g = copies m g (receivers nat_eq image c.name found.meta selector)
        by false g = refl

    agrees : (q : ℕ) → IsLive s.method_order q → (o : Option MethodRec) → slice_get s.methods q ≡ o
        → option_map_or (λ x. cond (goes (entry_of s.classes x)) gets (is_method nat_eq r.name found.meta selector (entry_of s.classes x))) o false
        ≡ cond (option_map_or (same_key (key found.class found.meta selector)) (option_map (λ (m : MethodRec). key m.class m.meta m.tree.selector) o) false) gets (option_map_or (same_key (key k found.meta selector)) (option_map (λ (m : MethodRec). key m.class m.meta m.tree.selector) o) false)
    agrees q n None h = refl
    agrees q n (Some m) h =
        λ i. cond (method-test s orderly found.meta selector found.class c down.live down.class q n (Some m) h i) gets (method-test s orderly found.meta selector k r l e q n (Some m) h i)

    own-lowered : own_method nat_eq (flat_map lowered image.methods) r.name found.meta selector ≡ option_map raised (option_and_then (entry_at s) (find (λ q. cond (at found.class q) gets (at k q)) s.method_order))
    own-lowered =
        find-spread lowered (is_method nat_eq r.name found.meta selector) (λ m. cond (goes m) gets (is_method nat_eq r.name found.meta selector m)) raised each image.methods
        ∙ ap (option_map raised) (sym (find-live (entry_of s.classes) (λ m. cond (goes m) gets (is_method nat_eq r.name found.meta selector m)) s.methods s.method_order)
        ∙ ap (option_and_then (entry_at s)) (find-agree _ (λ q. cond (at found.class q) gets (at k q)) s.method_order (λ q n. agrees q n (slice_get s.methods q) refl)))

    -- what is found by the first slot
    abbrev value : Option ℕ → Option (EntryOf ℕ)
    value o = option_map bare_entry (option_map raised (option_and_then (entry_at s) o))

    own-told : option_map bare_entry (own_method nat_eq (flat_map lowered image.methods) r.name found.meta selector) ≡ option_and_then (after_entry s sinking) (own_after s sinking k)
    unfolding own_after
    own-told =
        ap (option_map bare_entry) own-lowered
        ∙ ap (λ (b : Bool). value (find (λ q. cond (at found.class q) b (at k q)) s.method_order)) gets-told
        ∙ by (nat_eq k found.class) refl own-now refl (moves.is_below s k found.class)
      where
        either : (b x : Bool) → cond b true x ≡ (b || x)
        either true x = refl
        either false x = refl

        without : (b : Bool) → value (find (λ q. cond (at found.class q) (b && false) (at k q)) s.method_order) ≡ value (find (λ q. cond (at found.class q) false (at k q)) s.method_order)
        without b = ap (λ (x : Bool). value (find (λ q. cond (at found.class q) x (at k q)) s.method_order)) (and-false b)

        by : (x : Bool) → nat_eq k found.class ≡ x → (o : Option ℕ) → own-now ≡ o → (b : Bool)
            → value (find (λ q. cond (at found.class q) (b && is_none o) (at k q)) s.method_order)
            ≡ option_and_then (after_entry s sinking) (cond x None (option_or (moves.there o) (cond b (Some (after.Comes k)) None)))
        by true t None q b = let same = eqb-equal k found.class t in let bad : None ≡ Some y = sym q ∙ (ap (λ x. own_slot s x found.meta selector) same ∙ down.own) in cc
        by true t (Some z) q b = without b ∙ ap value (leaves s orderly found selector k y c r to k r l e (eqb-equal k found.class t))
        by false t (Some z) q b =
            without b ∙ ap value (keeps s orderly found selector k y c r to k r l e t ∙ q)
            ∙ kept s orderly found selector k y c r to k r l e t (Some z) q ∙ there-read s sinking (Some z)
        by false t None q false = ap value (keeps s orderly found selector k y c r to k r l e t ∙ q)
        by false t None q true =
            ap value (find-agree (λ p. cond (at found.class p) true (at k p)) (λ p. at found.class p || at k p) s.method_order (λ p n. either (at found.class p) (at k p))
            ∙ one-alone (at found.class) (at k) s.method_order y (found-own s orderly found selector k y c r to) (own-found s orderly found selector k y c r to k r l e ∙ q))
            ∙ goes-up s orderly found selector k y c r to k r l e

  -- on the other side nothing changes
  other-side : found.meta ≡ true → (n : ℕ) → own_method nat_eq (flat_map lowered image.methods) n false selector ≡ own_method nat_eq image.methods n false selector
  other-side t n = find-spread lowered (is_method nat_eq n false selector) (is_method nat_eq n false selector) (λ m. m) each-same image.methods ∙ unchanged (own_method nat_eq image.methods n false selector)
    where
      off : (m : EntryOf ℕ) → goes m ≡ true → (o : Option ℕ) → is_method nat_eq n false selector (record m { class = o }) ≡ false
      off m g o =
          let a = and_parts (option_map_or (nat_eq c.name) m.class false && beq found.meta m.meta) (nat_eq selector m.tree.selector) g in
          let b = and_parts (option_map_or (nat_eq c.name) m.class false) (beq found.meta m.meta) a.0 in
          (λ i. (option_map_or (nat_eq n) o false && beq false ((sym (sides-equal found.meta m.meta b.1) ∙ t) i)) && nat_eq selector m.tree.selector)
          ∙ ap (λ (x : Bool). x && nat_eq selector m.tree.selector) (and-false (option_map_or (nat_eq n) o false))

      none : (m : EntryOf ℕ) → goes m ≡ true → (ps : List ℕ) → find (is_method nat_eq n false selector) (map (of_class_named m) ps) ≡ None
      none m g [] = refl
      none m g (p ∷ ps) = ap (λ (b : Bool). cond b (Some (of_class_named m p)) (find (is_method nat_eq n false selector) (map (of_class_named m) ps))) (off m g (Some p)) ∙ none m g ps

      each-same : (m : EntryOf ℕ) → find (is_method nat_eq n false selector) (lowered m) ≡ cond (is_method nat_eq n false selector m) (Some m) None
      each-same m = by (goes m) refl
        where
          by : (b : Bool) → goes m ≡ b → find (is_method nat_eq n false selector) (cond b (map (of_class_named m) (receivers nat_eq image c.name found.meta selector)) (m ∷ [])) ≡ cond (is_method nat_eq n false selector m) (Some m) None
          by true g = none m g (receivers nat_eq image c.name found.meta selector) ∙ sym (ap (λ (b : Bool). cond b (Some m) None) (off m g m.class))
          by false g = refl

  pub is-sunk : IsMove s sinking (flat_map lowered image.methods)
  is-sunk = record { own = own-told; other = other-side }
