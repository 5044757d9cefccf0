-- The edits of classes are accepted, and leave the classes filed.
use Rattle.std.proofs.Common.{◌≡◌, ◌⊎◌, inl, inr, ℕ, ◌≤◌, Bool, true, false, cond, not, List, [], ◌∷◌, ◌++◌, map, filter, length, Option, Some, None, slice_get, refl, ap, sym, subst, ◌∙◌, true≢false, append_assoc, arith}
use Rattle.std.specs.Prelude.{◌&&◌, ◌||◌, codes, if◌then◌else◌, unwrap_or}
use Rattle.std.specs.List.{list_any}
use Rattle.std.specs.Option.{option_map_or}
use Rattle.std.proofs.lemmas.Bool.{false_from_ne_true}
use Rattle.std.proofs.lemmas.List.Elements.{filter-append}
use Rattle.rb_base.specs.Names.{text_eq}
use Rattle.rb_base.proofs.NamesLemmas.{text_eq-refl}
use Rattle.image_model.specs.Image.{ClassOf, EntryOf, ImageOf}
use Rattle.image_model.specs.Valid.{HasClass, HasNoRepeat, SuperclassesStandBefore, class_names}
use Rattle.image_model.proofs.ChainLemmas.{slice_get-map}
use Rattle.image_model.proofs.Ends.{contains-place}
use Rattle.file_model.specs.Applied.{is_of_class}
use Rattle.file_model.specs.Filing.{Text}
use Rattle.file_model.specs.Hierarchy.{has_class}
use Rattle.file_model.specs.Places.{PlacedOf, no_places}
use Rattle.file_model.specs.Written.{run_of, user_classes, user_methods}
use Rattle.file_laws.proofs.Moves.{text_equal}
use Rattle.file_laws.proofs.PutAgain.{filter_all}
use Rattle.file_rereading.proofs.Fresh.{any_none}
use Rattle.file_rereading.proofs.Prefixes.{above_before, before_front, named_there}
use Rattle.change_model.specs.Equal.{is_namesake, is_equal_class}
use Rattle.change_model.specs.Differs.{is_among, class_stays}
use Rattle.change_model.specs.Edits.{class_removals}
use Rattle.change_model.specs.Edited.{AreMade}
use Rattle.change_laws.specs.Merged.{Has, AreApart, with_item, with_items, item_of}
use Rattle.change_laws.specs.Images.{CanBeMade, AreClassesMade, bare, bare_classes, other_classes}
use Rattle.change_laws.proofs.Placing.{all_has, all_from}
use Rattle.change_laws.proofs.Orders.{found, any_has, at_has, has_filter, filter_has, apart_filter, stays_there}
use Rattle.change_laws.proofs.Filed.{its_item}
use Rattle.change_laws.proofs.Rest.{made_further}
use Rattle.change_laws.proofs.Tests.{namesake_same, namesake_back, namesake_through, class_same, class_alike, class_equal, has_at}
use Rattle.change_class_laws.proofs.Stands.{has_front, has_back, has_either, Came, came_from, apart_front, apart_back, apart_between, Named, has_named, named_has}
use Rattle.change_class_laws.proofs.Lessened.{PartOf, less_itself}
use Rattle.change_class_laws.proofs.Conditions.{with_classes, with_members}
use Rattle.change_class_laws.proofs.Users.{whole_of, all_apart, parts_apart, of_user, in_image, kernel_in, other_than_kernel, not_object, has_superclass}
use Rattle.change_class_laws.proofs.Clearings.{is_cleared, bared, cleared_class, clears_all}
use Rattle.change_class_laws.proofs.ClassRemovals.{IsNotAbove, left, Later, CanGo, removes}
use Rattle.change_class_laws.proofs.ClassFilings.{places_filed, places_are, methods_stay, IsGood, AreFiled, files}

filter_same : {X : Type 0} (p q : X → Bool) (xs : List X) → ((x : X) → Has x xs → p x ≡ q x) → filter p xs ≡ filter q xs
filter_same p q [] f = refl
filter_same p q (x ∷ xs) f = λ k. cond (f x (inl refl) k) (x ∷ filter_same p q xs (λ z h. f z (inr h)) k) (filter_same p q xs (λ z h. f z (inr h)) k)

map_same : {X Y : Type 0} (f g : X → Y) (xs : List X) → ((x : X) → Has x xs → f x ≡ g x) → map f xs ≡ map g xs
map_same f g [] e = refl
map_same f g (x ∷ xs) e = λ k. e x (inl refl) k ∷ map_same f g xs (λ z h. e z (inr h)) k

goes_to : {X Y : Type 0} (f : X → Y) (x : X) (xs : List X) → Has x xs → Has (f x) (map f xs)
goes_to f x [] h = absurd h
goes_to f x (z ∷ zs) (inl e) = inl (ap f e)
goes_to f x (z ∷ zs) (inr h) = inr (goes_to f x zs h)

apart_append : {X : Type 0} (alike : X → X → Bool) (xs ys : List X) → AreApart alike xs → AreApart alike ys → ((x y : X) → Has x xs → Has y ys → alike x y ≡ true → ⊥) → AreApart alike (xs ++ ys)
apart_append alike [] ys a b f = b
apart_append alike (x ∷ xs) ys a b f = (all_from (λ y. alike x y ≡ true → ⊥) (xs ++ ys) (λ z h. by z (has_either z xs ys h)), apart_append alike xs ys a.1 b (λ y z h k. f y z (inr h) k))
  where
    by : (z : _) → Has z xs ⊎ Has z ys → alike x z ≡ true → ⊥
    by z (inl h) = all_has (λ y. alike x y ≡ true → ⊥) xs z a.0 h
    by z (inr h) = f x z (inl refl) h

apart_map : (f : ClassOf Text → ClassOf Text) → ((x : ClassOf Text) → (f x).name ≡ x.name) → (xs : List (ClassOf Text)) → AreApart is_namesake xs → AreApart is_namesake (map f xs)
apart_map f named [] a = tt
apart_map f named (x ∷ xs) a = (all_from (λ (w : ClassOf Text). is_namesake (f x) w ≡ true → ⊥) (map f xs) (λ w h. by w (came_from f xs w h)), apart_map f named xs a.1)
  where
    by : (w : ClassOf Text) → Came f xs w → is_namesake (f x) w ≡ true → ⊥
    by w c e = all_has (λ (y : ClassOf Text). is_namesake x y ≡ true → ⊥) xs c.item a.0 c.there ((λ k. text_eq (sym (named x) k) (sym (named c.item) k)) ∙ ap (λ (z : ClassOf Text). text_eq (f x).name z.name) (sym c.is) ∙ e)

-- classes that are put in behind those of other names
put_behind : (y : ClassOf Text) (front cs : List (ClassOf Text)) → ((k : ClassOf Text) → Has k front → is_namesake y k ≡ false) → with_item is_namesake y (front ++ cs) ≡ front ++ with_item is_namesake y cs
put_behind y front cs other = (λ k. if among front other k then mapped front other k else last front k) ∙ by (is_among is_namesake cs y)
  where
    instead : ClassOf Text → ClassOf Text
    instead x = if is_namesake y x then y else x

    among : (xs : List (ClassOf Text)) → ((k : ClassOf Text) → Has k xs → is_namesake y k ≡ false) → is_among is_namesake (xs ++ cs) y ≡ is_among is_namesake cs y
    among [] f = refl
    among (x ∷ xs) f = λ k. f x (inl refl) k || among xs (λ z h. f z (inr h)) k

    mapped : (xs : List (ClassOf Text)) → ((k : ClassOf Text) → Has k xs → is_namesake y k ≡ false) → map (λ (x : ClassOf Text). if is_namesake y x then y else x) (xs ++ cs) ≡ xs ++ map (λ (x : ClassOf Text). if is_namesake y x then y else x) cs
    mapped [] f = refl
    mapped (x ∷ xs) f = λ k. (if f x (inl refl) k then y else x) ∷ mapped xs (λ z h. f z (inr h)) k

    last : (xs : List (ClassOf Text)) → (xs ++ cs) ++ y ∷ [] ≡ xs ++ (cs ++ y ∷ [])
    last xs = append_assoc xs cs (y ∷ [])

    by : (b : Bool) → (if b then front ++ map (λ (x : ClassOf Text). if is_namesake y x then y else x) cs else front ++ (cs ++ y ∷ [])) ≡ front ++ (if b then map (λ (x : ClassOf Text). if is_namesake y x then y else x) cs else cs ++ y ∷ [])
    by true = refl
    by false = refl

all_behind : (ys front cs : List (ClassOf Text)) → ((y k : ClassOf Text) → Has y ys → Has k front → is_namesake y k ≡ false) → with_items is_namesake ys (front ++ cs) ≡ front ++ with_items is_namesake ys cs
all_behind [] front cs other = refl
all_behind (y ∷ ys) front cs other = ap (with_items is_namesake ys) (put_behind y front cs (λ k h. other y k (inl refl) h)) ∙ all_behind ys front (with_item is_namesake y cs) (λ z k h l. other z k (inr h) l)

module _ (kernel i j : ImageOf Text) (c : CanBeMade kernel i j) (root : has_class text_eq kernel.classes (codes "Object") ≡ true) where
  abbrev us : List (ClassOf Text)
  us = user_classes i

  abbrev vs : List (ClassOf Text)
  vs = user_classes j

  abbrev clear : ClassOf Text → ClassOf Text
  clear = cleared_class i j

  abbrev stays : ClassOf Text → Bool
  stays x = is_among is_namesake vs x

  abbrev gone : List (ClassOf Text)
  gone = filter (λ x. not (stays x)) us

  clear_named : (x : ClassOf Text) → (clear x).name ≡ x.name
  clear_named x = by (is_cleared i j x)
    where
      by : (b : Bool) → (if b then bared j x else x).name ≡ x.name
      by true = refl
      by false = refl

  clear_kernel : (x : ClassOf Text) → (clear x).kernel ≡ x.kernel
  clear_kernel x = by (is_cleared i j x)
    where
      by : (b : Bool) → (if b then bared j x else x).kernel ≡ x.kernel
      by true = refl
      by false = refl

  -- a class that goes is none of the second image
  not_there : (x : ClassOf Text) → Has x us → stays x ≡ false → (n : Text) → has_class text_eq j.classes n ≡ true → text_eq x.name n ≡ false
  not_there x h e n there = false_from_ne_true (text_eq x.name n) (λ f. by f (named_has j.classes n there))
    where
      one : (y : ClassOf Text) → text_eq x.name n ≡ true → y.name ≡ n → text_eq x.name y.name ≡ true
      one y f named = ap (text_eq x.name) named ∙ f

      at : (y : ClassOf Text) → text_eq x.name y.name ≡ true → Has y kernel.classes ⊎ Has y vs → ⊥
      at y f (inl k) = true≢false (sym f ∙ other_than_kernel kernel i c.old c.old_first x y h k)
      at y f (inr k) = true≢false (sym (any_has (is_namesake x) vs y k f) ∙ e)

      by : text_eq x.name n ≡ true → Named j.classes n → ⊥
      by f y = at y.class (one y.class f y.named) (has_either y.class kernel.classes vs (subst (λ (cs : List (ClassOf Text)). Has y.class cs) c.new_first.classes y.there))

  -- a class of both images that stays as it is, is one of the second
  stays_as_is : (x : ClassOf Text) → class_stays i j x ≡ true → Has x vs
  stays_as_is x e = stays_there is_namesake namesake_same namesake_back is_equal_class class_same class_alike us vs x (λ y h f. class_equal x y f) e

  stays_back : (y : ClassOf Text) → class_stays j i y ≡ true → Has y us
  stays_back y e = stays_there is_namesake namesake_same namesake_back is_equal_class class_same class_alike vs us y (λ x h f. class_equal y x f) e

  -- the superclass of a class of the second image is there
  above_there : (y : ClassOf Text) → Has y j.classes → (n : Text) → y.superclass ≡ Some n → has_class text_eq j.classes n ≡ true
  above_there y h n e = let at = has_at j.classes y h in let b = c.new.superclasses_before at.0 y n at.1 e in named_there j.classes b.0 n b.2

  by_superclass : (x z : ClassOf Text) → ((n : Text) → z.superclass ≡ Some n → text_eq x.name n ≡ false) → IsNotAbove x z
  by_superclass x z f = by z.superclass f
    where
      by : (o : Option Text) → ((n : Text) → o ≡ Some n → text_eq x.name n ≡ false) → option_map_or (text_eq x.name) o false ≡ false
      by None g = refl
      by (Some n) g = g n refl

  -- `Object` is above the classes that are cleared
  by_clearing : (x z : ClassOf Text) → Has x us → (is_cleared i j z ≡ false → IsNotAbove x z) → IsNotAbove x (clear z)
  by_clearing x z h f = by (is_cleared i j z) refl
    where
      by : (b : Bool) → is_cleared i j z ≡ b → IsNotAbove x (if b then bared j z else z)
      by true e = not_object kernel i c.old c.old_first root x h
      by false e = f e

  other_of : (front : List (ClassOf Text)) (back : List (ClassOf Text)) → AreApart is_namesake (front ++ back) → (x : ClassOf Text) → Has x back → (n : Text) → (m : ℕ) × (slice_get (class_names front) m ≡ Some n) → text_eq x.name n ≡ false
  other_of front back apart x h n at =
      let k = slice_get-map (λ (z : ClassOf Text). z.name) front at.0 n at.1 in
      ap (text_eq x.name) (sym k.2) ∙ false_from_ne_true (text_eq x.name (k.0).name) (λ e. apart_between is_namesake front back apart k.0 x (at_has front at.0 k.0 k.1) h (namesake_back x k.0 e))

  later : (front xs : List (ClassOf Text)) → front ++ xs ≡ i.classes → ((x : ClassOf Text) → Has x xs → Has x us) → Later clear clear_named clear_kernel stays xs
  later front [] is users = tt
  later front (z ∷ zs) is users =
      (all_from (λ (x : ClassOf Text). IsNotAbove x (clear z)) (z ∷ zs) (λ x h. by_clearing x z (users x h) (λ e. by_superclass x z (above x h))), later (front ++ z ∷ []) zs (append_assoc front (z ∷ []) zs ∙ is) (λ x h. users x (inr h)))
    where
      above : (x : ClassOf Text) → Has x (z ∷ zs) → (n : Text) → z.superclass ≡ Some n → text_eq x.name n ≡ false
      above x h n e =
          other_of front (z ∷ zs) (subst (λ (cs : List (ClassOf Text)). AreApart is_namesake cs) (sym is) (all_apart kernel i c.old c.old_first)) x h n
          (above_before front z zs (subst (λ (cs : List (ClassOf Text)). SuperclassesStandBefore cs) (sym is) c.old.superclasses_before) n e)

  can_go : CanGo clear clear_named clear_kernel stays kernel.classes us
  can_go = record {
    others = λ x k h e l. other_than_kernel kernel i c.old c.old_first x k h l;
    not_above = λ x k h e l. by_superclass x k (above x k h l);
    apart = apart_back is_namesake kernel.classes us (parts_apart kernel i c.old c.old_first);
    later = later kernel.classes us (sym c.old_first.classes) (λ x h. h);
    of_stays = λ x z h k e f. by_clearing x z h (λ g. by_superclass x z (λ n s. not_there x h e n (above_there z (in_image kernel j c.new c.new_first z (stays_as_is z (as_is z f g))) n s)));
    users = of_user kernel i c.old c.old_first;
  }
    where
      as_is : (z : ClassOf Text) → stays z ≡ true → is_cleared i j z ≡ false → class_stays i j z ≡ true
      as_is z f g = by (class_stays i j z) (sym (ap (λ (b : Bool). not (class_stays i j z) && b) f) ∙ g)
        where
          by : (b : Bool) → (not b && true) ≡ false → b ≡ true
          by true e = refl
          by false e = sym e

      above : (x k : ClassOf Text) → Has x us → Has k kernel.classes → (n : Text) → k.superclass ≡ Some n → text_eq x.name n ≡ false
      above x k h l n e =
          let before = before_front kernel.classes us (subst (λ (cs : List (ClassOf Text)). SuperclassesStandBefore cs) c.old_first.classes c.old.superclasses_before) in
          let at = has_at kernel.classes k l in
          let b = before at.0 k n at.1 e in
          other_of kernel.classes us (parts_apart kernel i c.old c.old_first) x h n (b.0, b.2)

  -- which methods are left
  methods_left : left gone i.methods ≡ kernel.methods ++ filter (λ (m : EntryOf Text). has_class text_eq j.classes (run_of m).class) (user_methods i)
  methods_left =
      filter_same (λ (m : EntryOf Text). not (list_any (λ (g : ClassOf Text). is_of_class text_eq g.name m) gone)) kept i.methods survives
      ∙ ap (filter kept) c.old_first.methods ∙ filter-append kept kernel.methods (user_methods i)
      ∙ ap (λ (ms : List (EntryOf Text)). ms ++ filter kept (user_methods i)) (filter_all kept kernel.methods (all_from (λ (m : EntryOf Text). kept m ≡ true) kernel.methods of_kernel))
    where
      kept : EntryOf Text → Bool
      kept m = has_class text_eq j.classes (run_of m).class

      class_is : (x : ImageOf Text) → (m : EntryOf Text) → HasClass x.classes m → m.class ≡ Some (run_of m).class
      class_is x m h = h.1 ∙ sym (ap (λ (o : Option Text). Some (unwrap_or o [])) h.1)

      there : (x : ImageOf Text) (m : EntryOf Text) → HasClass x.classes m → has_class text_eq x.classes (run_of m).class ≡ true
      there x m h =
          let place = contains-place (class_names x.classes) h.0 h.2 in
          let name : h.0 ≡ (run_of m).class = ap (λ (o : Option Text). unwrap_or o []) (sym h.1) in
          ap (λ (n : Text). has_class text_eq x.classes n) (sym name) ∙ named_there x.classes place.0 h.0 place.1

      in_new : (m : EntryOf Text) → Has m kernel.methods → Has m j.methods
      in_new m h = subst (λ (ms : List (EntryOf Text)). Has m ms) (sym c.new_first.methods) (has_front m kernel.methods (user_methods j) h)

      of_kernel : (m : EntryOf Text) → Has m kernel.methods → kept m ≡ true
      of_kernel m h = there j m (all_has (HasClass j.classes) j.methods m c.new.method_classes_there (in_new m h))

      survives : (m : EntryOf Text) → Has m i.methods → not (list_any (λ (g : ClassOf Text). is_of_class text_eq g.name m) gone) ≡ kept m
      survives m h = by (kept m) refl
        where
          has : HasClass i.classes m
          has = all_has (HasClass i.classes) i.methods m c.old.method_classes_there h

          its : (x : ClassOf Text) → is_of_class text_eq x.name m ≡ text_eq x.name (run_of m).class
          its x = ap (λ (o : Option Text). option_map_or (text_eq x.name) o false) (class_is i m has)

          none : kept m ≡ true → (x : ClassOf Text) → Has x gone → is_of_class text_eq x.name m ≡ false
          none e x k = let f = filter_has (λ z. not (stays z)) us x k in its x ∙ not_there x f.there (not_so (stays x) f.passes) (run_of m).class e
            where
              not_so : (b : Bool) → not b ≡ true → b ≡ false
              not_so true g = sym g
              not_so false g = refl

          goes : kept m ≡ false → (x : ClassOf Text) → x.name ≡ (run_of m).class → Has x kernel.classes ⊎ Has x us → list_any (λ (g : ClassOf Text). is_of_class text_eq g.name m) gone ≡ true
          goes e x named (inl k) = absurd (true≢false (sym (has_named j.classes (run_of m).class (record { class = x; there = kernel_in kernel j c.new c.new_first x k; named = named })) ∙ e))
          goes e x named (inr k) = at (stays x) refl
            where
              at : (b : Bool) → stays x ≡ b → list_any (λ (g : ClassOf Text). is_of_class text_eq g.name m) gone ≡ true
              at true f =
                  let y = found (is_namesake x) vs f in
                  let name : (y.item).name ≡ (run_of m).class = sym (text_equal x.name (y.item).name y.passes) ∙ named in
                  absurd (true≢false (sym (has_named j.classes (run_of m).class (record { class = y.item; there = in_image kernel j c.new c.new_first y.item y.there; named = name })) ∙ e))
              at false f = any_has (λ (g : ClassOf Text). is_of_class text_eq g.name m) gone x (has_filter (λ z. not (stays z)) us x k (ap not f)) (its x ∙ ap (text_eq x.name) (sym named) ∙ text_eq-refl x.name)

          by : (b : Bool) → kept m ≡ b → not (list_any (λ (g : ClassOf Text). is_of_class text_eq g.name m) gone) ≡ b
          by true e = ap not (any_none (λ (g : ClassOf Text). is_of_class text_eq g.name m) gone (all_from (λ (g : ClassOf Text). is_of_class text_eq g.name m ≡ false) gone (none e)))
          by false e =
              let x = named_has i.classes (run_of m).class (there i m has) in
              ap not (goes e x.class x.named (has_either x.class kernel.classes us (subst (λ (cs : List (ClassOf Text)). Has x.class cs) c.old_first.classes x.there)))

  -- what is left of the classes
  bare_left : map clear (filter stays us) ≡ bare_classes i j
  bare_left = map_same clear (bare i j) (filter stays us) (λ x h. by x (class_stays i j x) (filter_has stays us x h).passes)
    where
      by : (x : ClassOf Text) (s : Bool) → stays x ≡ true → (if not s && stays x then bared j x else x) ≡ (if s then x else bared j x)
      by x true e = refl
      by x false e = ap (λ (b : Bool). if b then bared j x else x) e

  before_filings : List (ClassOf Text)
  before_filings = kernel.classes ++ bare_classes i j

  bare_named : (x : ClassOf Text) → (bare i j x).name ≡ x.name
  bare_named x = by (class_stays i j x)
    where
      by : (b : Bool) → (if b then x else bared j x).name ≡ x.name
      by true = refl
      by false = refl

  good : (few : length j.classes ≤ 10000) (shared : (y : ClassOf Text) → Has y j.classes → HasNoRepeat y.shared) (x : ImageOf Text) → IsGood x j.classes (whole_of kernel j c.new c.new_first) (all_apart kernel j c.new c.new_first) few shared (kernel.classes ++ bare_classes i j)
  good few shared x = record {
    distinct = apart_append is_namesake kernel.classes (bare_classes i j)
        (apart_front is_namesake kernel.classes us (parts_apart kernel i c.old c.old_first))
        (apart_map (bare i j) bare_named (filter stays us) (apart_filter is_namesake namesake_same namesake_back stays us (apart_back is_namesake kernel.classes us (parts_apart kernel i c.old c.old_first))))
        (λ k y h l. apart_by k y h (came_from (bare i j) (filter stays us) y l));
    parts = λ z h. parts_by z (has_either z kernel.classes (bare_classes i j) h);
  }
    where
      apart_by : (k y : ClassOf Text) → Has k kernel.classes → Came (bare i j) (filter stays us) y → is_namesake k y ≡ true → ⊥
      apart_by k y h came e =
          apart_between is_namesake kernel.classes us (parts_apart kernel i c.old c.old_first) k came.item h (filter_has stays us came.item came.there).there
          (ap (text_eq k.name) (sym (bare_named came.item)) ∙ ap (λ (z : ClassOf Text). text_eq k.name z.name) (sym came.is) ∙ e)

      part : (y : ClassOf Text) → Has y us → stays y ≡ true → PartOf j.classes (bare i j y)
      part y h e = by (class_stays i j y) refl
        where
          by : (b : Bool) → class_stays i j y ≡ b → PartOf j.classes (if b then y else bared j y)
          by true f = record { class = y; there = in_image kernel j c.new c.new_first y (stays_as_is y f); less = less_itself y }
          by false f =
              let v = found (is_namesake y) vs e in
              record {
                class = v.item;
                there = in_image kernel j c.new c.new_first v.item v.there;
                less = record {
                  named = text_equal y.name (v.item).name v.passes;
                  kernel = of_user kernel i c.old c.old_first y h ∙ sym (of_user kernel j c.new c.new_first v.item v.there);
                  under = inr (refl, has_superclass kernel j c.new c.new_first root v.item v.there);
                  instance = inr refl;
                  class_side = inr refl;
                };
              }

      parts_by : (z : ClassOf Text) → Has z kernel.classes ⊎ Has z (bare_classes i j) → PartOf j.classes z
      parts_by z (inl h) = record { class = z; there = kernel_in kernel j c.new c.new_first z h; less = less_itself z }
      parts_by z (inr h) = by (came_from (bare i j) (filter stays us) z h)
        where
          by : Came (bare i j) (filter stays us) z → PartOf j.classes z
          by came = let f = filter_has stays us came.item came.there in subst (PartOf j.classes) (sym came.is) (part came.item f.there f.passes)

  -- the classes that stay as they are are there
  stay_there : (y : ClassOf Text) → Has y vs → class_stays j i y ≡ true → has_class text_eq (kernel.classes ++ bare_classes i j) y.name ≡ true
  stay_there y h e =
      let listed : Has y (filter stays us) = has_filter stays us y (stays_back y e) (any_has (is_namesake y) vs y h (namesake_same y)) in
      has_named (kernel.classes ++ bare_classes i j) y.name (record { class = bare i j y; there = has_back (bare i j y) kernel.classes (bare_classes i j) (goes_to (bare i j) y (filter stays us) listed); named = bare_named y })

  item_of_some : (ps : List (PlacedOf (ClassOf Text))) (y : ClassOf Text) → ((p : PlacedOf (ClassOf Text)) → Has p ps → Has p.item vs) → Has y (map item_of ps) → Has y vs
  item_of_some [] y f h = absurd h
  item_of_some (p ∷ ps) y f (inl e) = subst (λ (z : ClassOf Text). Has z vs) (sym e) (f p (inl refl))
  item_of_some (p ∷ ps) y f (inr h) = item_of_some ps y (λ q k. f q (inr k)) h

  few : length j.classes ≤ 10000
  few = c.few.classes

  shared : (y : ClassOf Text) → Has y j.classes → HasNoRepeat y.shared
  shared y h = all_has (λ (x : ClassOf Text). HasNoRepeat x.shared) j.classes y c.new.class_variables_once h

  -- the edits of classes are accepted
  pub classes_made : AreClassesMade kernel i j
  classes_made = record {
    stage = with_classes rest (places_filed ds no_places) (with_items is_namesake (map item_of ds) begun);
    made = made_further (clears_all kernel i j c root) (made_further removed filed.made);
    filed = record {
      classes = all_behind (map item_of ds) kernel.classes (bare_classes i j) (λ y k h l. other_than_kernel kernel j c.new c.new_first y k (item_of_some ds y its h) l);
      places = λ d. places_are ds no_places d;
    };
    left = record {
      there = λ n h. by n (named_has j.classes n h);
      methods = methods_left;
      no_places = methods_stay ds no_places;
      doits = refl;
      heads = refl;
    };
  }
    where
      ds : List (PlacedOf (ClassOf Text))
      ds = other_classes i j

      begun : List (ClassOf Text)
      begun = kernel.classes ++ bare_classes i j

      rest : ImageOf Text
      rest = record i { methods = left gone i.methods }

      its : (p : PlacedOf (ClassOf Text)) → Has p ds → Has p.item vs
      its p h = its_item is_namesake namesake_same namesake_back namesake_through (class_stays j i) 1 vs p h

      removed : AreMade (class_removals i j) (with_classes i no_places (kernel.classes ++ map clear us)) (with_members i begun (left gone i.methods))
      removed =
          subst (λ (cs : List (ClassOf Text)). AreMade (class_removals i j) (with_members i (kernel.classes ++ map clear us) i.methods) (with_members i (kernel.classes ++ cs) (left gone i.methods))) bare_left
          (removes clear clear_named clear_kernel stays i kernel.classes us i.methods can_go)

      filed : AreFiled rest j.classes (whole_of kernel j c.new c.new_first) (all_apart kernel j c.new c.new_first) few shared ds begun no_places
      filed =
          files rest j.classes (whole_of kernel j c.new c.new_first) (all_apart kernel j c.new c.new_first) few shared (class_stays j i) 1 kernel.classes vs begun no_places (sym c.new_first.classes) (omega arith) (good few shared rest)
          (of_user kernel j c.new c.new_first) (λ k h. has_named begun k.name (record { class = k; there = has_front k kernel.classes (bare_classes i j) h; named = refl })) stay_there

      by : (n : Text) → Named j.classes n → has_class text_eq (with_items is_namesake (map item_of ds) begun) n ≡ true
      by n y = ap (λ (m : Text). has_class text_eq (with_items is_namesake (map item_of ds) begun) m) (sym y.named) ∙ filed.there y.class y.there
