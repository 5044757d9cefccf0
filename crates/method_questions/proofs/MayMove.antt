-- When the user has a method, and what a move of it asks for.
use Rattle.std.proofs.Common.{◌≡◌, ℕ, Bool, true, false, cond, not, ◌&&◌, map, Option, Some, None, is_some, option_map, slice_get, refl, sym, ap, ◌∙◌}
use Rattle.std.specs.Prelude.{nat_eq}
use Rattle.std.specs.List.{flat_map}
use Rattle.std.specs.Option.{option_map_or, option_and_then}
use Rattle.std.proofs.Math.Bool.{and-false}
use Rattle.image_model.specs.Image.{ClassOf, EntryOf, ImageOf}
use Rattle.image_model.specs.Words.{number_words}
use Rattle.image_model.specs.Lookup.{is_method}
use Rattle.class_table.specs.declared.record.ClassRec.{ClassRec}
use Rattle.class_table.specs.declared.record.MethodRec.{MethodRec}
use Rattle.class_table.specs.Slots.{Slots}
use Rattle.class_table.specs.View.{class_name, class_of, class_at, entry_of, entry_at, live_at, number_image}
use Rattle.class_table.specs.Valid.{IsLive, IsOrderly}
use Rattle.class_table.specs.Finding.{named_in}
use Rattle.class_table.proofs.Live.{there}
use Rattle.class_table.proofs.Found.{class_named-named_in}
use Rattle.class_questions.proofs.AnyLive.{live_at-live}
use Rattle.class_questions.proofs.ChainLaws.{named-slot}
use Rattle.command_model.specs.Hierarchy.{superclass_name}
use Rattle.command_model.specs.MethodEffects.{of_class_named, method_pushed_up, method_pushed_down}
use Rattle.command_model.specs.MethodConditions as model
use Rattle.commands.specs.Views.{asked_by}
use Rattle.method_questions.specs.declared.found.Found.{Found}
use Rattle.method_questions.specs.declared.moves.Way.TheVariants as way
use Rattle.method_questions.specs.Found.{bare_entry, as_entry, opened_at, own_slot, named_slot, superclass_slot}
use Rattle.method_questions.specs.Moves.{comes_first, finds_another}
use Rattle.method_questions.specs.Unreached.{LeadsTo, user_slot}
use Rattle.method_questions.proofs.OwnMethods.{HasKey, keyed, own-keyed, named-entry, named-holds, opened-holds}
use Rattle.method_questions.proofs.Inherited.{superclass-told}
use Rattle.method_questions.proofs.MovedImages.{leads}
use Rattle.method_questions.proofs.PushedUp.{GoesUp, raised, going, is-move}
use Rattle.method_questions.proofs.PushedDown.{GoesDown, lowered, sinking, is-sunk}

-- a slot or none
some-if : (b : Bool) (y : ℕ) → is_some (cond b (Some y) None) ≡ b
some-if true y = refl
some-if false y = refl

-- what is there twice
pub some-same : {X : Type 0} (x y : X) → Some x ≡ Some y → x ≡ y
some-same x y e = cc

module _ (s : Slots) (orderly : IsOrderly s) (n : ℕ) where
  abbrev image : ImageOf ℕ
  image = number_image s

  -- the name of the superclass
  pub superclass-named : superclass_name nat_eq image n ≡ option_and_then (class_name s.classes) (superclass_slot s n)
  superclass-named = by (named_in s.classes s.class_order n) refl
    where
      by : (o : Option ℕ) → named_in s.classes s.class_order n ≡ o → superclass_name nat_eq image n ≡ option_and_then (class_name s.classes) (superclass_slot s n)
      by None e =
          ap (option_and_then (λ (d : ClassOf ℕ). d.superclass)) (class_named-named_in s n ∙ ap (option_and_then (class_at s)) e)
          ∙ sym (ap (λ o. option_and_then (class_name s.classes) (option_and_then (λ class. option_and_then (λ (d : ClassRec). d.superclass) (live_at s.classes s.class_order class)) o)) e)
      by (Some k) e =
          let h = named-slot s.classes s.class_order n k e in
          let c = there s.classes k (orderly.class_order.below k h.0) in
          ap (option_and_then (λ (d : ClassOf ℕ). d.superclass)) (class_named-named_in s n ∙ ap (option_and_then (class_at s)) e ∙ ap (option_map (class_of s.classes)) c.1)
          ∙ sym (ap (option_and_then (class_name s.classes)) (superclass-told s orderly n k c.0 e c.1))

  module _ (meta : Bool) (selector : ℕ) where
    -- whether the user has the method
    pub implements-told : model.implements nat_eq image n meta selector ≡ is_some (user_slot s n meta selector)
    implements-told = ap (λ (o : Option (EntryOf ℕ)). option_map_or (λ (m : EntryOf ℕ). not m.kernel) o false) (sym (named-entry s orderly meta selector n)) ∙ by (named_slot s n meta selector) refl
      where
        by : (o : Option ℕ) → named_slot s n meta selector ≡ o → option_map_or (λ (m : EntryOf ℕ). not m.kernel) (option_and_then (entry_at s) o) false
            ≡ is_some (option_and_then (λ k. cond (option_map_or (λ (m : MethodRec). not m.kernel) (live_at s.methods s.method_order k) false) (Some k) None) o)
        by None e = refl
        by (Some y) e =
            let h = named-holds s orderly meta selector n y e in
            ap (λ (o : Option MethodRec). option_map_or (λ (m : EntryOf ℕ). not m.kernel) (option_map (entry_of s.classes) o) false) h.there
            ∙ sym (some-if (not h.method.kernel) y)
            ∙ sym (ap (λ (o : Option MethodRec). is_some (cond (option_map_or (λ (m : MethodRec). not m.kernel) o false) (Some y) None)) (live_at-live s.methods s.method_order y h.live ∙ h.there))

    -- its slot is that of the method of these names
    user-named : (y : ℕ) → user_slot s n meta selector ≡ Some y → named_slot s n meta selector ≡ Some y
    user-named y e = by (named_slot s n meta selector) refl e
      where
        by : (o : Option ℕ) → named_slot s n meta selector ≡ o → option_and_then (λ k. cond (option_map_or (λ (m : MethodRec). not m.kernel) (live_at s.methods s.method_order k) false) (Some k) None) o ≡ Some y → o ≡ Some y
        by None q h = absurd (cc)
        by (Some z) q h = at (option_map_or (λ (m : MethodRec). not m.kernel) (live_at s.methods s.method_order z) false) h
          where
            at : (b : Bool) → cond b (Some z) None ≡ Some y → Some z ≡ Some y
            at true r = r
            at false r = absurd (cc)

    -- the class of the method and the method itself, as it is found
    pub record Stands (y : ℕ) (found : Found) : Type 0 where
      pub class : ClassRec
      pub there : slice_get s.classes found.class ≡ Some class
      pub name : class.name ≡ n
      pub side : found.meta ≡ meta
      pub own : own_slot s found.class found.meta selector ≡ Some y
      pub named : named_in s.classes s.class_order n ≡ Some found.class

    pub stands : (y : ℕ) (found : Found) → user_slot s n meta selector ≡ Some y → IsLive s.class_order found.class → Some (as_entry s.classes found) ≡ opened_at s y → Stands y found
    stands y found e live method = by (named_in s.classes s.class_order n) refl (user-named y e)
      where
        at : (k : ℕ) → named_in s.classes s.class_order n ≡ Some k → own_slot s k meta selector ≡ Some y → Stands y found
        at k q own =
            let h = named-slot s.classes s.class_order n k q in
            let has : HasKey s k meta selector y = keyed s selector k meta y (sym (own-keyed s selector k meta h.0) ∙ own) in
            let both : Some (as_entry s.classes found) ≡ Some (bare_entry (entry_of s.classes has.holds.method)) = method ∙ opened-holds s orderly meta selector y has.holds in
            let is : as_entry s.classes found ≡ bare_entry (entry_of s.classes has.holds.method) = cc in
            let side : found.meta ≡ meta = ap (λ (m : EntryOf ℕ). m.meta) is ∙ has.side in
            let named : class_name s.classes found.class ≡ Some n = ap (λ (m : EntryOf ℕ). m.class) is ∙ (ap (class_name s.classes) has.class ∙ h.1) in
            let same : found.class ≡ k = orderly.class_names_distinct found.class k n live h.0 named h.1 in
            let c = there s.classes found.class (orderly.class_order.below found.class live) in
            let name : Some c.0.name ≡ Some n = sym (ap (option_map (λ (x : ClassRec). x.name)) c.1) ∙ named in
            record {
              class = c.0;
              there = c.1;
              name = cc;
              side = side;
              own = (λ i. own_slot s (same i) (side i) selector) ∙ own;
              named = q ∙ ap Some (sym same);
            }

        by : (o : Option ℕ) → named_in s.classes s.class_order n ≡ o → option_and_then (λ class. own_slot s class meta selector) o ≡ Some y → Stands y found
        by None q h = absurd (cc)
        by (Some k) q h = at k q h

    -- such a slot is that of a live method
    pub user-opened : (y : ℕ) → user_slot s n meta selector ≡ Some y → opened_at s y ≡ None → ⊥
    user-opened y e none =
        let h = named-holds s orderly meta selector n y (user-named y e) in
        let both = sym none ∙ opened-holds s orderly meta selector y h in
        absurd (cc)

    -- whether a method may go up
    abbrev pub is_up_there : Bool
    is_up_there = model.implements nat_eq image n meta selector && is_some (superclass_name nat_eq image n)

    pub no-method : user_slot s n meta selector ≡ None → false ≡ is_up_there
    no-method e = sym (ap (λ (b : Bool). b && is_some (superclass_name nat_eq image n)) (implements-told ∙ ap is_some e))

    pub no-superclass : superclass_slot s n ≡ None → false ≡ is_up_there
    no-superclass e =
        sym (ap (λ o. model.implements nat_eq image n meta selector && is_some o) (superclass-named ∙ ap (option_and_then (class_name s.classes)) e) ∙ and-false (model.implements nat_eq image n meta selector))

    above-named : (above : ℕ) → IsLive s.class_order above → superclass_slot s n ≡ Some above → (d : ClassRec) × (slice_get s.classes above ≡ Some d) × (superclass_name nat_eq image n ≡ Some d.name)
    above-named above live h =
        let d = there s.classes above (orderly.class_order.below above live) in
        (d.0, d.1, superclass-named ∙ ap (option_and_then (class_name s.classes)) h ∙ ap (option_map (λ (x : ClassRec). x.name)) d.1)

    -- a method that stands in its class goes up to one
    standing-up : (y above : ℕ) (found : Found) (first : Bool) (t : Stands y found) (d : ClassRec) → (up : GoesUp s found selector above y t.class d) → superclass_name nat_eq image n ≡ Some d.name
        → first ≡ comes_first s.method_order y (own_slot s above found.meta selector) → LeadsTo s (record { method = found; selector = selector; way = way.Up above first }) (method_pushed_up nat_eq n meta selector image) meta selector
    standing-up y above found first t d up named f = record {
      same_selector = refl;
      classes = λ k r l e.
          (λ i. finds_another s (record { method = found; selector = selector; way = way.Up above (f i) }) k)
          ∙ (leads s orderly (going s orderly found selector above y t.class d up) (map (raised s orderly found selector above y t.class d up) image.methods) (is-move s orderly found selector above y t.class d up)).classes k r l e
          ∙ (λ i. model.finds_another (number_words s.names) (asked_by s.names).is_super image (record image { methods = map (λ m. cond (is_method nat_eq (t.name i) (t.side i) selector m) (of_class_named m d.name) m) image.methods }) r.name (t.side i) selector)
          ∙ sym (λ i. model.finds_another (number_words s.names) (asked_by s.names).is_super image
          (option_map_or (λ p. record image { methods = map (λ m. cond (is_method nat_eq n meta selector m) (of_class_named m p) m) image.methods }) (named i) image) r.name meta selector);
    }

    pub record GoesTo (y above : ℕ) (found : Found) (first : Bool) : Type 0 where
      pub is_there : true ≡ is_up_there
      pub leads : LeadsTo s (record { method = found; selector = selector; way = way.Up above first }) (method_pushed_up nat_eq n meta selector image) meta selector

    pub goes-up : (y above : ℕ) (found : Found) (first : Bool) → user_slot s n meta selector ≡ Some y → superclass_slot s n ≡ Some above → IsLive s.class_order found.class → Some (as_entry s.classes found) ≡ opened_at s y
        → first ≡ comes_first s.method_order y (own_slot s above meta selector) → GoesTo y above found first
    goes-up y above found first e h live method f = by (stands y found e live method)
      where
        by : Stands y found → GoesTo y above found first
        by t =
            let super : t.class.superclass ≡ Some above = sym (superclass-told s orderly n found.class t.class t.named t.there) ∙ h in
            let above_live = orderly.superclasses_live above found.class t.class live t.there super in
            let d = above-named above above_live h in
            record {
              is_there = sym (λ i. (implements-told ∙ ap is_some e) i && is_some (d.2 i));
              leads = standing-up y above found first t d.0 (record { live = live; class = t.there; above_live = above_live; above_class = d.1; own = t.own; method = sym method }) d.2
                  (f ∙ ap (λ b. comes_first s.method_order y (own_slot s above b selector)) (sym t.side));
            }

    -- a method that stands in its class goes down
    standing-down : (y : ℕ) (found : Found) (t : Stands y found) → (down : GoesDown s found selector y t.class) → LeadsTo s (record { method = found; selector = selector; way = way.Down }) (method_pushed_down nat_eq n meta selector image) meta selector
    standing-down y found t down = record {
      same_selector = refl;
      classes = λ k r l e.
          (leads s orderly (sinking s orderly found selector y t.class down) (flat_map (lowered s orderly found selector y t.class down) image.methods) (is-sunk s orderly found selector y t.class down)).classes k r l e
          ∙ (λ i. model.finds_another (number_words s.names) (asked_by s.names).is_super image (method_pushed_down nat_eq (t.name i) (t.side i) selector image) r.name (t.side i) selector);
    }

    pub goes-down : (y : ℕ) (found : Found) → user_slot s n meta selector ≡ Some y → IsLive s.class_order found.class → Some (as_entry s.classes found) ≡ opened_at s y
        → LeadsTo s (record { method = found; selector = selector; way = way.Down }) (method_pushed_down nat_eq n meta selector image) meta selector
    goes-down y found e live method = by (stands y found e live method)
      where
        by : Stands y found → LeadsTo s (record { method = found; selector = selector; way = way.Down }) (method_pushed_down nat_eq n meta selector image) meta selector
        by t = standing-down y found t (record { live = live; class = t.there; own = t.own; method = sym method })
