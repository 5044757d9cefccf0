-- Methods of a user that are put in behind those of the kernel.
use Rattle.std.proofs.Common.{◌≡◌, ◌⊎◌, inl, inr, ℕ, ◌+◌, ◌<◌, ◌≤◌, Bool, true, false, cond, not, List, [], ◌∷◌, ◌++◌, length, map, filter, find, Option, Some, None, Ok, Err, refl, ap, sym, subst, ◌∙◌, arith, length-append, true≢false}
use Rattle.std.specs.Prelude.{◌||◌, ◌&&◌, if◌then◌else◌, is_some, nat_le}
use Rattle.std.specs.Bool.{beq}
use Rattle.std.specs.List.{list_any}
use Rattle.std.specs.Option.{option_map_or, option_map}
use Rattle.std.proofs.lemmas.Bool.{le-leb, lt-leb}
use Rattle.rb_base.specs.Names.{text_eq}
use Rattle.image_model.specs.Image.{EntryOf, ImageOf}
use Rattle.image_model.specs.Lookup.{is_method}
use Rattle.file_model.specs.Applied.{entry_in, with_method}
use Rattle.file_model.specs.Causes.{first_cause}
use Rattle.file_model.specs.Filing.{Text}
use Rattle.file_model.specs.Hierarchy.{has_class}
use Rattle.file_model.specs.Places.{PlacedOf, PlacesOf, MethodPlaceOf, method_place, placed_items, unplaced_items, by_place, put_all, put_again}
use Rattle.file_model.specs.Refusals.{has_method, is_kernel_method, is_one_method_too_many}
use Rattle.file_model.specs.Written.{run_of}
use Rattle.file_rereading.proofs.Says.{none_holds}
use Rattle.change_model.specs.Equal.{is_counterpart}
use Rattle.change_model.specs.Differs.{is_among}
use Rattle.change_model.specs.Edits.{Edit, Put}
use Rattle.change_model.specs.Edited.{places_put, put_refusals, edited, AreMade, Over, Made}
use Rattle.change_laws.specs.Merged.{Has, AreApart, with_item, with_items, place_after, item_of}
use Rattle.change_laws.proofs.Placing.{all_has}
use Rattle.change_laws.proofs.Orders.{found, any_has, has_filter}
use Rattle.change_laws.proofs.Puts.{Stays, apart_with, with_has}
use Rattle.change_laws.proofs.Tests.{counterpart_same, counterpart_back, counterpart_through}

-- a method of a user has a class
pub record IsUsers (m : EntryOf Text) : Type 0 where
  pub class : m.class ≡ Some (run_of m).class
  pub user : m.kernel ≡ false

-- a list whose items are apart, and each alike to one of another list, is no longer than that one
shorter : {X : Type 0} (p : X → Bool) (xs : List X) → length (filter (λ x. not (p x)) xs) ≤ length xs
shorter p [] = omega arith
shorter p (x ∷ xs) = by (p x) (shorter p xs)
  where
    by : (b : Bool) → length (filter (λ z. not (p z)) xs) ≤ length xs → length (cond (not b) (x ∷ filter (λ z. not (p z)) xs) (filter (λ z. not (p z)) xs)) ≤ length (x ∷ xs)
    by true l = omega (arith, l)
    by false l = omega (arith, l)

one_less : {X : Type 0} (p : X → Bool) (xs : List X) → list_any p xs ≡ true → length (filter (λ x. not (p x)) xs) < length xs
one_less p [] h = absurd (true≢false (sym h))
one_less p (x ∷ xs) h = by (p x) h (shorter p xs) (λ k. one_less p xs k)
  where
    by : (b : Bool) → (b || list_any p xs) ≡ true → length (filter (λ z. not (p z)) xs) ≤ length xs → (list_any p xs ≡ true → length (filter (λ z. not (p z)) xs) < length xs) → length (cond (not b) (x ∷ filter (λ z. not (p z)) xs) (filter (λ z. not (p z)) xs)) < length (x ∷ xs)
    by true k l rest = omega (arith, l)
    by false k l rest = omega (arith, rest k)

pub no_longer : {X : Type 0} (alike : X → X → Bool) → ((x y : X) → alike x y ≡ true → alike y x ≡ true) → ((x y z : X) → alike x y ≡ true → alike y z ≡ true → alike x z ≡ true) → (xs ys : List X) → AreApart alike xs → ((x : X) → Has x xs → is_among alike ys x ≡ true) → length xs ≤ length ys
no_longer alike back through [] ys apart known = omega arith
no_longer alike back through (x ∷ xs) ys apart known =
    let rest = no_longer alike back through xs (filter (λ y. not (alike x y)) ys) apart.1 left in
    omega (arith, rest, one_less (alike x) ys (known x (inl refl)))
  where
    not_so : (b : Bool) → (b ≡ true → ⊥) → not b ≡ true
    not_so true f = absurd (f refl)
    not_so false f = refl

    left : (z : _) → Has z xs → is_among alike (filter (λ y. not (alike x y)) ys) z ≡ true
    left z h =
        let f = found (alike z) ys (known z (inr h)) in
        let other = not_so (alike x f.item) (λ e. all_has (λ y. alike x y ≡ true → ⊥) xs z apart.0 h (through x f.item z e (back z f.item f.passes))) in
        any_has (alike z) (filter (λ y. not (alike x y)) ys) f.item (has_filter (λ y. not (alike x y)) ys f.item f.there other) f.passes

-- whether a method is the one of the class, the side and the selector of another
abbrev pub is_its : EntryOf Text → EntryOf Text → Bool
is_its m e = is_method text_eq (run_of m).class m.meta m.tree.selector e

pub is_its_counterpart : (m e : EntryOf Text) → IsUsers e → is_its m e ≡ is_counterpart m e
is_its_counterpart m e u = ap (λ (o : Option Text). option_map_or (text_eq (run_of m).class) o false && beq m.meta e.meta && text_eq m.tree.selector e.tree.selector) u.class

-- a method of a run is the method
its_entry : (m : EntryOf Text) → IsUsers m → entry_in false (run_of m) m.source m.tree ≡ m
its_entry m u = λ j. record { class = sym u.class j; meta = m.meta; protocol = m.protocol; source = m.source; tree = m.tree; kernel = sym u.user j }

-- an edit that puts a method in
abbrev pub put_of : PlacedOf (EntryOf Text) → Edit
put_of p = Put p.item p.place

-- the places once methods are put in
abbrev pub places_puts : List (PlacedOf (EntryOf Text)) → PlacesOf Text → PlacesOf Text
places_puts [] places = places
places_puts (p ∷ ps) places = places_puts ps (places_put p.item p.place places)

module _ (i : ImageOf Text) (front ys : List (EntryOf Text)) (users : (m : EntryOf Text) → Has m ys → IsUsers m) (other : (m e : EntryOf Text) → Has m ys → Has e front → is_its m e ≡ false)
    (there : (m : EntryOf Text) → Has m ys → has_class text_eq i.classes (run_of m).class ≡ true) (few : length front + length ys ≤ 200000) where
  -- methods of users, each of which has a counterpart among those that are wanted
  pub record IsGood (ms : List (EntryOf Text)) : Type 0 where
    pub all_users : (e : EntryOf Text) → Has e ms → IsUsers e
    pub apart : AreApart is_counterpart ms
    pub known : (e : EntryOf Text) → Has e ms → is_among is_counterpart ys e ≡ true

  good_with : (m : EntryOf Text) (ms : List (EntryOf Text)) → Has m ys → IsGood ms → IsGood (with_item is_counterpart m ms)
  good_with m ms h g = record {
    all_users = λ e k. users_by e (with_has is_counterpart counterpart_same counterpart_back counterpart_through m e ms k);
    apart = apart_with is_counterpart counterpart_same counterpart_back counterpart_through m ms g.apart;
    known = λ e k. known_by e (with_has is_counterpart counterpart_same counterpart_back counterpart_through m e ms k);
  }
    where
      users_by : (e : EntryOf Text) → (e ≡ m) ⊎ Stays is_counterpart counterpart_same counterpart_back counterpart_through m ms e → IsUsers e
      users_by e (inl s) = subst IsUsers (sym s) (users m h)
      users_by e (inr s) = g.all_users e s.there

      known_by : (e : EntryOf Text) → (e ≡ m) ⊎ Stays is_counterpart counterpart_same counterpart_back counterpart_through m ms e → is_among is_counterpart ys e ≡ true
      known_by e (inl s) = subst (λ (x : EntryOf Text). is_among is_counterpart ys x ≡ true) (sym s) (any_has (is_counterpart m) ys m h (counterpart_same m))
      known_by e (inr s) = g.known e s.there

  module _ (m : EntryOf Text) (h : Has m ys) where
    -- what is found behind those of the kernel
    find_behind : (ks ms : List (EntryOf Text)) → ((e : EntryOf Text) → Has e ks → is_its m e ≡ false) → find (is_its m) (ks ++ ms) ≡ find (is_its m) ms
    find_behind [] ms f = refl
    find_behind (k ∷ ks) ms f = ap (λ (b : Bool). cond b (Some k) (find (is_its m) (ks ++ ms))) (f k (inl refl)) ∙ find_behind ks ms (λ e i. f e (inr i))

    finds : (ms : List (EntryOf Text)) → ((e : EntryOf Text) → Has e ms → IsUsers e) → is_some (find (is_its m) ms) ≡ is_among is_counterpart ms m
    finds [] all = refl
    finds (e ∷ es) all = by (is_its m e) (is_counterpart m e) (is_its_counterpart m e (all e (inl refl))) (finds es (λ x k. all x (inr k)))
      where
        by : (a b : Bool) → a ≡ b → is_some (find (is_its m) es) ≡ is_among is_counterpart es m → is_some (cond a (Some e) (find (is_its m) es)) ≡ (b || is_among is_counterpart es m)
        by true true q rest = refl
        by true false q rest = absurd (true≢false q)
        by false true q rest = absurd (true≢false (sym q))
        by false false q rest = rest

    of_user : (ms : List (EntryOf Text)) → ((e : EntryOf Text) → Has e ms → IsUsers e) → option_map_or (λ (e : EntryOf Text). e.kernel) (find (is_its m) ms) false ≡ false
    of_user [] all = refl
    of_user (e ∷ es) all = by (is_its m e) (of_user es (λ x k. all x (inr k)))
      where
        by : (a : Bool) → option_map_or (λ (x : EntryOf Text). x.kernel) (find (is_its m) es) false ≡ false → option_map_or (λ (x : EntryOf Text). x.kernel) (cond a (Some e) (find (is_its m) es)) false ≡ false
        by true rest = (all e (inl refl)).user
        by false rest = rest

    -- those of the kernel stay
    front_map : (new : EntryOf Text) (ks ms : List (EntryOf Text)) → ((e : EntryOf Text) → Has e ks → is_its m e ≡ false) → map (λ e. if is_its m e then new else e) (ks ++ ms) ≡ ks ++ map (λ e. if is_its m e then new else e) ms
    front_map new [] ms f = refl
    front_map new (k ∷ ks) ms f = λ j. (if f k (inl refl) j then new else k) ∷ front_map new ks ms (λ e i. f e (inr i)) j

    users_map : (ms : List (EntryOf Text)) → ((e : EntryOf Text) → Has e ms → IsUsers e) → map (λ e. if is_its m e then m else e) ms ≡ map (λ e. if is_counterpart m e then m else e) ms
    users_map [] all = refl
    users_map (e ∷ es) all = λ j. (if is_its_counterpart m e (all e (inl refl)) j then m else e) ∷ users_map es (λ x k. all x (inr k)) j

    assoc_end : (ks ms : List (EntryOf Text)) (x : EntryOf Text) → (ks ++ ms) ++ x ∷ [] ≡ ks ++ (ms ++ x ∷ [])
    assoc_end [] ms x = refl
    assoc_end (k ∷ ks) ms x = ap (λ (es : List (EntryOf Text)). k ∷ es) (assoc_end ks ms x)

    has : (ms : List (EntryOf Text)) → IsGood ms → has_method text_eq (front ++ ms) (run_of m).class m.meta m.tree.selector ≡ is_among is_counterpart ms m
    has ms g = ap (λ (o : Option (EntryOf Text)). is_some o) (find_behind front ms (λ e k. other m e h k)) ∙ finds ms g.all_users

    puts : (ms : List (EntryOf Text)) → IsGood ms → with_method text_eq false (run_of m) m.source m.tree (front ++ ms) ≡ front ++ with_item is_counterpart m ms
    puts ms g =
        ap (λ (b : Bool). if b then map (λ e. if is_its m e then entry_in false (run_of m) m.source m.tree else e) (front ++ ms) else (front ++ ms) ++ entry_in false (run_of m) m.source m.tree ∷ []) (has ms g)
        ∙ ap (λ (x : EntryOf Text). if is_among is_counterpart ms m then map (λ e. if is_its m e then x else e) (front ++ ms) else (front ++ ms) ++ x ∷ []) (its_entry m (users m h))
        ∙ by (is_among is_counterpart ms m)
      where
        by : (b : Bool) → (if b then map (λ e. if is_its m e then m else e) (front ++ ms) else (front ++ ms) ++ m ∷ []) ≡ front ++ (if b then map (λ e. if is_counterpart m e then m else e) ms else ms ++ m ∷ [])
        by true = front_map m front ms (λ e k. other m e h k) ∙ ap (λ (es : List (EntryOf Text)). front ++ es) (users_map ms g.all_users)
        by false = assoc_end front ms m

    not_too_many : (ms : List (EntryOf Text)) → IsGood ms → is_one_method_too_many text_eq (front ++ ms) (run_of m).class m.meta m.tree.selector ≡ false
    not_too_many ms g = ap (λ (b : Bool). not b && nat_le 200000 (length (front ++ ms))) (has ms g) ∙ by (is_among is_counterpart ms m) refl
      where
        by : (b : Bool) → is_among is_counterpart ms m ≡ b → (not b && nat_le 200000 (length (front ++ ms))) ≡ false
        by true e = refl
        by false e =
            let grown : length (ms ++ m ∷ []) ≤ length ys =
            subst (λ (es : List (EntryOf Text)). length es ≤ length ys) (ap (λ (b : Bool). if b then map (λ x. if is_counterpart m x then m else x) ms else ms ++ m ∷ []) e)
            (let n = good_with m ms h g in no_longer is_counterpart counterpart_back counterpart_through (with_item is_counterpart m ms) ys n.apart n.known) in
            lt-leb 200000 (length (front ++ ms)) (omega (arith, grown, few, length-append front ms, length-append ms (m ∷ [])))

    -- a method is put in
    step : (k : ℕ) (ms : List (EntryOf Text)) (places : PlacesOf Text) → 1 ≤ k → IsGood ms →
        edited (Put m k) (record { image = record i { methods = front ++ ms }; places = places }) ≡ Ok (record { image = record i { methods = front ++ with_item is_counterpart m ms }; places = places_put m k places })
    step k ms places from g =
        let conditions = put_refusals m k (record i { methods = front ++ ms }) in
        let user : is_kernel_method text_eq (front ++ ms) (run_of m).class m.meta m.tree.selector ≡ false =
        ap (λ (o : Option (EntryOf Text)). option_map_or (λ (e : EntryOf Text). e.kernel) o false) (find_behind front ms (λ e k. other m e h k)) ∙ of_user ms g.all_users in
        let none : first_cause conditions ≡ None = none_holds conditions (ap not (le-leb 1 k from), (ap not (there m h), (user, (not_too_many ms g, tt)))) in
        ap (λ o. option_map_or Err o (Ok (record { image = record i { methods = with_method text_eq false (run_of m) m.source m.tree (front ++ ms) }; places = places_put m k places }))) none
        ∙ ap (λ (es : List (EntryOf Text)). Ok (record { image = record i { methods = es }; places = places_put m k places })) (puts ms g)

  -- methods are put in, one after the other
  pub steps : (ps : List (PlacedOf (EntryOf Text))) (ms : List (EntryOf Text)) (places : PlacesOf Text) → ((p : PlacedOf (EntryOf Text)) → Has p ps → Has p.item ys) → ((p : PlacedOf (EntryOf Text)) → Has p ps → 1 ≤ p.place) → IsGood ms →
      AreMade (map put_of ps) (record { image = record i { methods = front ++ ms }; places = places }) (record { image = record i { methods = front ++ with_items is_counterpart (map item_of ps) ms }; places = places_puts ps places })
  steps [] ms places of from g = Over
  steps (p ∷ ps) ms places of from g =
      Made (step p.item (of p (inl refl)) p.place ms places (from p (inl refl)) g) (steps ps (with_item is_counterpart p.item ms) (places_put p.item p.place places) (λ q h. of q (inr h)) (λ q h. from q (inr h)) (good_with p.item ms (of p (inl refl)) g))

-- the place of a method depends on its own place before alone
pub place_after_at : (ps : List (PlacedOf (EntryOf Text))) (f g : EntryOf Text → Option ℕ) (m : EntryOf Text) → f m ≡ g m → place_after is_counterpart ps f m ≡ place_after is_counterpart ps g m
place_after_at [] f g m e = e
place_after_at (p ∷ ps) f g m e = place_after_at ps (λ z. if is_counterpart p.item z then Some p.place else f z) (λ z. if is_counterpart p.item z then Some p.place else g z) m (ap (λ (o : Option ℕ). if is_counterpart p.item m then Some p.place else o) e)

-- the places that are stated when methods are put in
pub places_are : (ps : List (PlacedOf (EntryOf Text))) (places : PlacesOf Text) (m : EntryOf Text) → IsUsers m → method_place text_eq (places_puts ps places).methods m ≡ place_after is_counterpart ps (method_place text_eq places.methods) m
places_are [] places m u = refl
places_are (p ∷ ps) places m u =
    places_are ps (places_put p.item p.place places) m u
    ∙ place_after_at ps (method_place text_eq (places_put p.item p.place places).methods) (λ z. if is_counterpart p.item z then Some p.place else method_place text_eq places.methods z) m
    (by (is_its p.item m) ∙ ap (λ (b : Bool). if b then Some p.place else method_place text_eq places.methods m) (is_its_counterpart p.item m u))
  where
    by : (b : Bool) → option_map (λ (q : MethodPlaceOf Text). q.place) (cond b (Some (record { class = (run_of p.item).class; meta = p.item.meta; selector = p.item.tree.selector; place = p.place })) (find (λ (q : MethodPlaceOf Text). is_method text_eq q.class q.meta q.selector m) places.methods)) ≡ (if b then Some p.place else method_place text_eq places.methods m)
    by true = refl
    by false = refl

pub classes_stay : (ps : List (PlacedOf (EntryOf Text))) (places : PlacesOf Text) → (places_puts ps places).classes ≡ places.classes
classes_stay [] places = refl
classes_stay (p ∷ ps) places = classes_stay ps (places_put p.item p.place places)

-- items whose places are the same by two tables are put in again alike
pub same_places : {X : Type 0} (f g : X → Option ℕ) (xs : List X) → ((x : X) → Has x xs → f x ≡ g x) → put_again f xs ≡ put_again g xs
same_places {X} f g xs e = λ j. put_all (by_place (placed_same xs e j)) (unplaced_same xs e j)
  where
    placed_same : (zs : List X) → ((x : X) → Has x zs → f x ≡ g x) → placed_items f zs ≡ placed_items g zs
    placed_same [] e = refl
    placed_same (z ∷ zs) e = λ j. option_map_or (λ k. record { place = k; item = z } ∷ placed_same zs (λ x h. e x (inr h)) j) (e z (inl refl) j) (placed_same zs (λ x h. e x (inr h)) j)

    unplaced_same : (zs : List X) → ((x : X) → Has x zs → f x ≡ g x) → unplaced_items f zs ≡ unplaced_items g zs
    unplaced_same [] e = refl
    unplaced_same (z ∷ zs) e = λ j. option_map_or (λ k. unplaced_same zs (λ x h. e x (inr h)) j) (e z (inl refl) j) (z ∷ unplaced_same zs (λ x h. e x (inr h)) j)
