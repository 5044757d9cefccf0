-- The direct subclasses that have no method of a selector of their own, and copies for classes.
use Rattle.std.proofs.Common.{◌≡◌, ℕ, ◌&&◌, ◌||◌, Bool, true, false, cond, not, List, [], ◌∷◌, map, filter, find, Option, None, Some, option_map, slice_get, refl, sym, ap, subst, ◌∙◌}
use Rattle.std.specs.Prelude.{nat_eq, is_none, is_some}
use Rattle.std.specs.List.{filter_map, cons_option, list_any}
use Rattle.std.specs.Option.{option_map_or, option_and_then}
use Rattle.image_model.specs.Image.{ClassOf, EntryOf}
use Rattle.image_model.specs.Lookup.{is_method, own_method}
use Rattle.class_table.specs.declared.record.ClassRec.{ClassRec}
use Rattle.class_table.specs.declared.record.MethodRec.{MethodRec}
use Rattle.class_table.specs.Slots.{Slots}
use Rattle.class_table.specs.Valid.{IsLive, IsOrderly}
use Rattle.class_table.specs.View.{live, live_at, class_name, class_of, entry_of, number_image}
use Rattle.class_table.specs.Kept.{FitsMethod}
use Rattle.class_table.proofs.Live.{there, IsLive-first, IsLive-rest}
use Rattle.class_table.proofs.KeptLemmas.{method-fits}
use Rattle.class_questions.proofs.AnyLive.{live_at-live, live-live_at, any_live}
use Rattle.command_model.specs.Hierarchy as hierarchy
use Rattle.commands.specs.declared.command.MethodName.{MethodName}
use Rattle.hierarchy_questions.specs.OwnMethods.{own_slot}
use Rattle.hierarchy_questions.proofs.OwnMethods.{none-same}
use Rattle.wider_slots.specs.Closed.{IsClosed}
use Rattle.wider_slots.specs.Wider.{one_method, widened, Wider}
use Rattle.wider_slots.proofs.StepLemmas.{wider-same}
use Rattle.method_plans.specs.Named.{has_method, name_above, receives, receivers, moved_to}
use Rattle.method_plans.proofs.Added.{wider_room}
use Rattle.method_plans.proofs.LiveMethods.{live-cons}

-- nothing is found where nothing passes the test
none-found : {X : Type 0} (p : X → Bool) (xs : List X) → is_none (find p xs) ≡ not (list_any p xs)
none-found p [] = refl
none-found p (x ∷ xs) = by (p x) (none-found p xs)
  where
    by : (b : Bool) → is_none (find p xs) ≡ not (list_any p xs) → is_none (cond b (Some x) (find p xs)) ≡ not (b || list_any p xs)
    by true h = refl
    by false h = h

-- what passes a test stands in the list
pub filter-live : (p : ℕ → Bool) (ks : List ℕ) (j : ℕ) → IsLive (filter p ks) j → IsLive ks j
filter-live p [] j l = l
filter-live p (k ∷ ks) j l = by (p k) (filter-live p ks j) l
  where
    by : (b : Bool) → (IsLive (filter p ks) j → IsLive ks j) → IsLive (cond b (k ∷ filter p ks) (filter p ks)) j → IsLive (k ∷ ks) j
    by true rest h = first (nat_eq j k) rest h
      where
        first : (b : Bool) → (IsLive (filter p ks) j → IsLive ks j) → (b || list_any (nat_eq j) (filter p ks)) ≡ true → (b || list_any (nat_eq j) ks) ≡ true
        first true rest h = refl
        first false rest h = rest h
    by false rest h = IsLive-rest j k ks (rest h)

-- whether there is one is asked of the slot that the class itself has
pub own-has : (s : Slots) → IsOrderly s → (method : MethodName) → is_some (own_slot s method.class method.meta method.selector) ≡ has_method s method
own-has s o method =
    let test : EntryOf ℕ → Bool = is_method nat_eq method.class method.meta method.selector in
    some-none (own_slot s method.class method.meta method.selector)
    ∙ ap not (sym (none-same s o method.class method.meta method.selector) ∙ none-found test (number_image s).methods)
    ∙ not-not (list_any test (number_image s).methods)
    ∙ sym (any_live (entry_of s.classes) test s.methods s.method_order)
  where
    some-none : (q : Option ℕ) → is_some q ≡ not (is_none q)
    some-none None = refl
    some-none (Some k) = refl

    not-not : (b : Bool) → not (not b) ≡ b
    not-not true = refl
    not-not false = refl

module _ (s : Slots) (o : IsOrderly s) (method : MethodName) where
  -- whether a class of the image is one of them
  abbrev is_receiver : ClassOf ℕ → Bool
  is_receiver c = hierarchy.is_child nat_eq method.class c && is_none (own_method nat_eq (number_image s).methods c.name method.meta method.selector)

  above-is : (k : ℕ) (c : ClassRec) → IsLive s.class_order k → slice_get s.classes k ≡ Some c → name_above s c ≡ option_and_then (class_name s.classes) c.superclass
  above-is k c l e = by c.superclass refl
    where
      by : (q : Option ℕ) → c.superclass ≡ q → option_map (λ (d : ClassRec). d.name) (option_and_then (live_at s.classes s.class_order) q) ≡ option_and_then (class_name s.classes) q
      by None up = refl
      by (Some j) up = ap (option_map (λ (d : ClassRec). d.name)) (live_at-live s.classes s.class_order j (o.superclasses_live j k c l e up))

  receives-live : (k : ℕ) (c : ClassRec) → IsLive s.class_order k → slice_get s.classes k ≡ Some c → receives s method k ≡ is_receiver (class_of s.classes c)
  receives-live k c l e =
      let own : MethodName = record method { class = c.name } in
      let test : EntryOf ℕ → Bool = is_method nat_eq c.name method.meta method.selector in
      let has : has_method s own ≡ list_any test (number_image s).methods = any_live (entry_of s.classes) test s.methods s.method_order in
      ap (λ (q : Option ClassRec). option_map_or (λ (d : ClassRec). option_map_or (nat_eq method.class) (name_above s d) false && not (has_method s (record method { class = d.name }))) q false) (live_at-live s.classes s.class_order k l ∙ e)
      ∙ (λ i. option_map_or (nat_eq method.class) (above-is k c l e i) false && not (has i))
      ∙ ap (λ (b : Bool). hierarchy.is_child nat_eq method.class (class_of s.classes c) && b) (sym (none-found test (number_image s).methods))

  names-live : (ks : List ℕ) → ((k : ℕ) → IsLive ks k → IsLive s.class_order k)
      → filter_map (class_name s.classes) (filter (receives s method) ks) ≡ map (λ (c : ClassOf ℕ). c.name) (filter is_receiver (map (class_of s.classes) (live s.classes ks)))
  names-live [] all = refl
  names-live (k ∷ ks) all =
      let r = there s.classes k (o.class_order.below k (all k (IsLive-first k ks))) in
      by r.0 r.1 (is_receiver (class_of s.classes r.0)) (receives-live k r.0 (all k (IsLive-first k ks)) r.1) refl (names-live ks (λ j l. all j (IsLive-rest j k ks l)))
    where
      by : (c : ClassRec) → slice_get s.classes k ≡ Some c → (b : Bool) → receives s method k ≡ b → is_receiver (class_of s.classes c) ≡ b
          → filter_map (class_name s.classes) (filter (receives s method) ks) ≡ map (λ (d : ClassOf ℕ). d.name) (filter is_receiver (map (class_of s.classes) (live s.classes ks)))
          → filter_map (class_name s.classes) (cond (receives s method k) (k ∷ filter (receives s method) ks) (filter (receives s method) ks)) ≡ map (λ (d : ClassOf ℕ). d.name) (filter is_receiver (map (class_of s.classes) (live s.classes (k ∷ ks))))
      by c at true takes is rest =
          ap (λ (b : Bool). filter_map (class_name s.classes) (cond b (k ∷ filter (receives s method) ks) (filter (receives s method) ks))) takes
          ∙ ap (λ (q : Option ClassRec). cons_option (option_map (λ (d : ClassRec). d.name) q) (filter_map (class_name s.classes) (filter (receives s method) ks))) at
          ∙ ap (λ (ns : List ℕ). c.name ∷ ns) rest
          ∙ sym (
          ap (λ (ds : List (ClassOf ℕ)). map (λ (d : ClassOf ℕ). d.name) (filter is_receiver ds)) (live-cons (class_of s.classes) s.classes k c ks at)
          ∙ ap (λ (b : Bool). map (λ (d : ClassOf ℕ). d.name) (cond b (class_of s.classes c ∷ filter is_receiver (map (class_of s.classes) (live s.classes ks))) (filter is_receiver (map (class_of s.classes) (live s.classes ks))))) is)
      by c at false takes is rest =
          ap (λ (b : Bool). filter_map (class_name s.classes) (cond b (k ∷ filter (receives s method) ks) (filter (receives s method) ks))) takes
          ∙ rest
          ∙ sym (
          ap (λ (ds : List (ClassOf ℕ)). map (λ (d : ClassOf ℕ). d.name) (filter is_receiver ds)) (live-cons (class_of s.classes) s.classes k c ks at)
          ∙ ap (λ (b : Bool). map (λ (d : ClassOf ℕ). d.name) (cond b (class_of s.classes c ∷ filter is_receiver (map (class_of s.classes) (live s.classes ks))) (filter is_receiver (map (class_of s.classes) (live s.classes ks))))) is)

  -- the names of the slots are those of the classes
  pub receivers-named : filter_map (class_name s.classes) (receivers s method) ≡ hierarchy.receivers nat_eq (number_image s) method.class method.meta method.selector
  receivers-named = names-live s.class_order (λ k l. l)

-- a copy fits where its class is live
pub moved-fits : (s : Slots) → IsOrderly s → (class k : ℕ) (m : MethodRec) → IsLive s.class_order class → moved_to s class k ≡ Some m → FitsMethod s m
moved-fits s o class k m l e = by (live_at s.methods s.method_order k) refl e
  where
    by : (q : Option MethodRec) → live_at s.methods s.method_order k ≡ q → option_map (λ (r : MethodRec). record r { class = class }) q ≡ Some m → FitsMethod s m
    by None is made = absurd (cc)
    by (Some r) is made =
        let here = live-live_at s.methods s.method_order k r is in
        let same : record r { class = class } ≡ m = cc in
        subst (λ (n : MethodRec). FitsMethod s n) same (record { names_known = (method-fits s o k r here.0 here.1).names_known; class_live = l })

-- there is room for it
pub copy-wider : (s u : Slots) → IsClosed s → IsOrderly s → (class k : ℕ) (m : MethodRec) → IsLive s.class_order class → moved_to s class k ≡ Some m → u ≡ widened (one_method m) s → Wider s u
copy-wider s u closed o class k m l e is = wider_room s s u m (wider-same s closed) o (moved-fits s o class k m l e) is
