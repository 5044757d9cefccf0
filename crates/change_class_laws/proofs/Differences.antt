-- Each edit names what differs.
use Rattle.std.proofs.Common.{◌≡◌, ◌⊎◌, inl, inr, ℕ, suc, Bool, true, false, not, List, [], ◌∷◌, ◌++◌, map, filter, length, refl, ap, sym, subst, ◌∙◌, true≢false}
use Rattle.std.specs.Prelude.{◌&&◌, ◌==◌, ◌↔◌, reverse, flat_map, if◌then◌else◌}
use Rattle.std.specs.List.{AllByRecursion}
use Rattle.std.proofs.lemmas.Bool.{and_parts}
use Rattle.std.proofs.lemmas.List.{reverse-append}
use Rattle.rb_base.specs.Names.{text_eq}
use Rattle.rb_base.proofs.NamesLemmas.{text_eq-refl}
use Rattle.image_model.specs.Image.{ClassOf, EntryOf, DoItOf, ImageOf}
use Rattle.file_model.specs.Changes.{ChangeOf, Define, DefineAt, Comment, SetClassSide, RemoveMethod, RemoveClass}
use Rattle.file_model.specs.Filing.{Text}
use Rattle.file_model.specs.Hierarchy.{has_class}
use Rattle.file_model.specs.Places.{PlacedOf}
use Rattle.file_model.specs.Written.{run_of, user_classes, user_methods}
use Rattle.file_laws.proofs.Moves.{text_equal}
use Rattle.change_model.specs.Equal.{is_namesake, is_counterpart, is_equal_class, is_equal_method}
use Rattle.change_model.specs.Differs.{DifferenceOf, is_among, in_both, place_of, is_one_place, stays, differing_from, class_stays, method_stays, other_doits, differing}
use Rattle.change_model.specs.Edits.{Edit, Settle, Change, Put, Replace, cleared, filed, removal, clearings, class_removals, class_filings, method_removals, method_filings, replacements, edits}
use Rattle.change_laws.specs.Merged.{Has, AreApart}
use Rattle.change_laws.specs.Images.{CanBeMade}
use Rattle.change_laws.proofs.Orders.{found, any_has, has_filter, filter_has, none_pass, one_alike, both_same, stays_there}
use Rattle.change_laws.proofs.SameClasses.{one_with_itself}
use Rattle.change_laws.proofs.Filed.{its_item}
use Rattle.change_laws.proofs.Images.{classes_apart, methods_apart, spelled}
use Rattle.change_laws.proofs.Tests.{namesake_same, namesake_back, namesake_through, class_same, class_alike, class_equal, counterparts, counterpart_same, counterpart_back, counterpart_through, method_same, method_alike, method_equal}
use Rattle.change_class_laws.specs.Named.{ClassDiffers, MethodDiffers, ChangesDifference, EditsDifference}
use Rattle.change_class_laws.specs.Whole.{HasRoot, NothingDiffers}
use Rattle.change_class_laws.proofs.Stands.{has_front, has_back, has_either}
use Rattle.change_class_laws.proofs.WholeLaw.{same_where_none}

-- what is so of each of several lists
module _ {X : Type 0} (P : X → Type 0) where
  pub all_append : (xs ys : List X) → AllByRecursion P xs → AllByRecursion P ys → AllByRecursion P (xs ++ ys)
  all_append [] ys a b = b
  all_append (x ∷ xs) ys a b = (a.0, all_append xs ys a.1 b)

  pub all_flat : {Y : Type 0} (f : Y → List X) (ys : List Y) → ((y : Y) → Has y ys → AllByRecursion P (f y)) → AllByRecursion P (flat_map f ys)
  all_flat f [] h = tt
  all_flat f (y ∷ ys) h = all_append (f y) (flat_map f ys) (h y (inl refl)) (all_flat f ys (λ z k. h z (inr k)))

  pub all_map : {Y : Type 0} (f : Y → X) (ys : List Y) → ((y : Y) → Has y ys → P (f y)) → AllByRecursion P (map f ys)
  all_map f [] h = tt
  all_map f (y ∷ ys) h = (h y (inl refl), all_map f ys (λ z k. h z (inr k)))

pub reverse_has : {X : Type 0} (z : X) (xs : List X) → Has z (reverse xs) → Has z xs
reverse_has z [] h = h
reverse_has z (x ∷ xs) h = by (λ k. reverse_has z xs k) (has_either z (reverse xs) (x ∷ []) (subst (λ (ys : List _). Has z ys) (reverse-append (x ∷ []) xs) h))
  where
    by : (Has z (reverse xs) → Has z xs) → Has z (reverse xs) ⊎ Has z (x ∷ []) → Has z (x ∷ xs)
    by rest (inl k) = inr (rest k)
    by rest (inr (inl e)) = inl e
    by rest (inr (inr k)) = absurd k

has_map : {X Y : Type 0} (f : X → Y) (x : X) (xs : List X) → Has x xs → Has (f x) (map f xs)
has_map f x [] h = absurd h
has_map f x (z ∷ zs) (inl e) = inl (ap f e)
has_map f x (z ∷ zs) (inr h) = inr (has_map f x zs h)

-- an item that is listed with its place does not stay
its_other : {X : Type 0} (stay : X → Bool) (k : ℕ) (ys : List X) (p : PlacedOf X) → Has p (differing_from k stay ys) → stay p.item ≡ false
its_other stay k [] p h = absurd h
its_other {X} stay k (y ∷ ys) p h = by (stay y) refl h (λ i. its_other stay (suc k) ys p i)
  where
    by : (b : Bool) → stay y ≡ b → Has p (if b then differing_from (suc k) stay ys else record { place = k; item = y } ∷ differing_from (suc k) stay ys) → (Has p (differing_from (suc k) stay ys) → stay p.item ≡ false) → stay p.item ≡ false
    by true e i rest = rest i
    by false e (inl s) rest = ap (λ (q : PlacedOf X). stay q.item) s ∙ e
    by false e (inr i) rest = rest i

module _ {X : Type 0} (alike equal : X → X → Bool) (itself : (x : X) → alike x x ≡ true) (back : (x y : X) → alike x y ≡ true → alike y x ≡ true) (equal_itself : (x : X) → equal x x ≡ true) (equal_alike : (x y : X) → equal x y ≡ true → alike x y ≡ true) where
  -- a list differs nowhere from itself
  none_differs : (xs : List X) → differing alike equal xs xs ≡ []
  none_differs xs = λ k. none_moved k ++ none_new k
    where
      stays_here : (z : X) → Has z xs → stays alike equal xs xs z ≡ true
      stays_here z h = let a = place_of (alike z) (in_both alike xs xs) in (λ k. any_has (equal z) xs z h (equal_itself z) k && is_one_place a a) ∙ one_with_itself a

      none_moved : filter (λ x. not (stays alike equal xs xs x)) xs ≡ []
      none_moved = none_pass (λ x. not (stays alike equal xs xs x)) xs (λ z h e. true≢false (sym e ∙ ap not (stays_here z h)))

      none_new : filter (λ y. not (is_among alike xs y)) xs ≡ []
      none_new = none_pass (λ y. not (is_among alike xs y)) xs (λ z h e. true≢false (sym e ∙ ap not (any_has (alike z) xs z h (itself z))))

  module _ (xs ys : List X) where
    -- an item of the first list that does not stay differs
    old_differs : (x : X) → Has x xs → stays alike equal xs ys x ≡ false → Has x (differing alike equal xs ys)
    old_differs x h e = has_front x (filter (λ z. not (stays alike equal xs ys z)) xs) (filter (λ y. not (is_among alike xs y)) ys) (has_filter (λ z. not (stays alike equal xs ys z)) xs x h (ap not e))

    -- one that goes does not stay
    gone_differs : (x : X) → is_among alike ys x ≡ false → stays alike equal xs ys x ≡ false
    gone_differs x e = by (is_among equal ys x) refl
      where
        same : Bool
        same = is_one_place (place_of (alike x) (in_both alike xs ys)) (place_of (alike x) (in_both alike ys xs))

        by : (b : Bool) → is_among equal ys x ≡ b → (b && same) ≡ false
        by true f = let k = found (equal x) ys f in absurd (true≢false (sym (any_has (alike x) ys k.item k.there (equal_alike x k.item k.passes)) ∙ e))
        by false f = refl

    -- the item that is alike, or the item itself
    record Listed (y : X) : Type 0 where
      item : X
      there : Has item (differing alike equal xs ys)
      is : alike y item ≡ true

    -- so does one of the second list that does not stay
    new_differs : AreApart alike ys → ((x y : X) → Has x xs → Has y ys → equal x y ≡ true → x ≡ y) → (y : X) → Has y ys → stays alike equal ys xs y ≡ false → Listed y
    new_differs apart one y h e = by (is_among alike xs y) refl
      where
        not_stays : (z : X) → Has z xs → alike y z ≡ true → (b : Bool) → stays alike equal xs ys z ≡ b → b ≡ false
        not_stays z k a false g = refl
        not_stays z k a true g =
            let in_ys : Has z ys = stays_there alike itself back equal equal_itself equal_alike xs ys z (λ w l q. one z w k l q) g in
            let same : y ≡ z = one_alike alike itself back ys y z apart h in_ys a in
            absurd (true≢false (sym g ∙ both_same alike itself back equal equal_itself equal_alike xs ys z k in_ys ∙ ap (stays alike equal ys xs) (sym same) ∙ e))

        by : (b : Bool) → is_among alike xs y ≡ b → Listed y
        by true f = let z = found (alike y) xs f in record { item = z.item; there = old_differs z.item z.there (not_stays z.item z.there z.passes (stays alike equal xs ys z.item) refl); is = z.passes }
        by false f = record { item = y; there = has_back y (filter (λ z. not (stays alike equal xs ys z)) xs) (filter (λ z. not (is_among alike xs z)) ys) (has_filter (λ z. not (is_among alike xs z)) ys y h (ap not f)); is = itself y }

not_so : (b : Bool) → not b ≡ true → b ≡ false
not_so true e = sym e
not_so false e = refl

module _ (kernel i j : ImageOf Text) (c : CanBeMade kernel i j) where
  abbrev us : List (ClassOf Text)
  us = user_classes i

  abbrev vs : List (ClassOf Text)
  vs = user_classes j

  abbrev ms : List (EntryOf Text)
  ms = user_methods i

  abbrev ns : List (EntryOf Text)
  ns = user_methods j

  abbrev P : Edit → Type 0
  P e = EditsDifference i j e

  old_class : (x : ClassOf Text) → Has x us → class_stays i j x ≡ false → ClassDiffers i j x.name
  old_class x h e = (x, old_differs is_namesake is_equal_class namesake_same namesake_back class_same class_alike us vs x h e, refl)

  new_class : (y : ClassOf Text) → Has y vs → class_stays j i y ≡ false → ClassDiffers i j y.name
  new_class y h e =
      let l = new_differs is_namesake is_equal_class namesake_same namesake_back class_same class_alike us vs (classes_apart kernel j c.new) (λ a b k q f. class_equal a b f) y h e in
      (l.item, l.there, sym (text_equal y.name (l.item).name l.is))

  old_method : (x : EntryOf Text) → Has x ms → method_stays i j x ≡ false → MethodDiffers i j (run_of x).class x.meta x.tree.selector
  old_method x h e = (x, old_differs is_counterpart is_equal_method counterpart_same counterpart_back method_same method_alike ms ns x h e, refl, refl, refl)

  new_method : (y : EntryOf Text) → Has y ns → method_stays j i y ≡ false → MethodDiffers i j (run_of y).class y.meta y.tree.selector
  new_method y h e =
      let l = new_differs is_counterpart is_equal_method counterpart_same counterpart_back method_same method_alike ms ns (methods_apart kernel j c.new) (λ a b k q f. method_equal a b (spelled kernel i c.old a k) (spelled kernel j c.new b q) f) y h e in
      let same = counterparts y l.item l.is in
      (l.item, l.there, sym same.class, sym same.meta, sym same.selector)

  of_clearings : AllByRecursion P (clearings i j)
  of_clearings = all_flat P (cleared j) (filter (λ x. not (class_stays i j x) && is_among is_namesake vs x) us) each
    where
      each : (x : ClassOf Text) → Has x (filter (λ x. not (class_stays i j x) && is_among is_namesake vs x) us) → AllByRecursion P (cleared j x)
      each x h =
          let f = filter_has (λ x. not (class_stays i j x) && is_among is_namesake vs x) us x h in
          let d = old_class x f.there (not_so (class_stays i j x) (and_parts (not (class_stays i j x)) (is_among is_namesake vs x) f.passes).0) in
          (d, (d, tt))

  of_class_removals : AllByRecursion P (class_removals i j)
  of_class_removals = all_map P (λ (x : ClassOf Text). Change (RemoveClass x.name)) (reverse (filter (λ x. not (is_among is_namesake vs x)) us)) each
    where
      each : (x : ClassOf Text) → Has x (reverse (filter (λ x. not (is_among is_namesake vs x)) us)) → ClassDiffers i j x.name
      each x h =
          let f = filter_has (λ x. not (is_among is_namesake vs x)) us x (reverse_has x (filter (λ x. not (is_among is_namesake vs x)) us) h) in
          old_class x f.there (gone_differs is_namesake is_equal_class namesake_same namesake_back class_same class_alike us vs x (not_so (is_among is_namesake vs x) f.passes))

  of_class_filings : AllByRecursion P (class_filings i j)
  of_class_filings = all_flat P filed (differing_from 1 (class_stays j i) vs) each
    where
      each : (p : PlacedOf (ClassOf Text)) → Has p (differing_from 1 (class_stays j i) vs) → AllByRecursion P (filed p)
      each p h = (d, all_append P (if length p.item.class_side == 0 then [] else Change (SetClassSide p.item.name p.item.class_side) ∷ []) (Change (Comment p.item.name p.item.comment) ∷ []) (side (length p.item.class_side == 0)) (d, tt))
        where
          d : ClassDiffers i j p.item.name
          d = new_class p.item (its_item is_namesake namesake_same namesake_back namesake_through (class_stays j i) 1 vs p h) (its_other (class_stays j i) 1 vs p h)

          side : (b : Bool) → AllByRecursion P (if b then [] else Change (SetClassSide p.item.name p.item.class_side) ∷ [])
          side true = tt
          side false = (d, tt)

  abbrev method_goes : EntryOf Text → Bool
  method_goes x = not (is_among is_counterpart ns x) && has_class text_eq j.classes (run_of x).class

  of_method_removals : AllByRecursion P (method_removals i j)
  of_method_removals = all_map P removal (filter method_goes ms) each
    where
      each : (x : EntryOf Text) → Has x (filter method_goes ms) → MethodDiffers i j (run_of x).class x.meta x.tree.selector
      each x h =
          let f = filter_has method_goes ms x h in
          let lacks = (and_parts (not (is_among is_counterpart ns x)) (has_class text_eq j.classes (run_of x).class) f.passes).0 in
          old_method x f.there (gone_differs is_counterpart is_equal_method counterpart_same counterpart_back method_same method_alike ms ns x (not_so (is_among is_counterpart ns x) lacks))

  of_method_filings : AllByRecursion P (method_filings i j)
  of_method_filings = all_map P (λ (p : PlacedOf (EntryOf Text)). Put p.item p.place) (differing_from 1 (method_stays j i) ns) each
    where
      each : (p : PlacedOf (EntryOf Text)) → Has p (differing_from 1 (method_stays j i) ns) → Has p.item ns × MethodDiffers i j (run_of p.item).class p.item.meta p.item.tree.selector
      each p h =
          let there = its_item is_counterpart counterpart_same counterpart_back counterpart_through (method_stays j i) 1 ns p h in
          (there, new_method p.item there (its_other (method_stays j i) 1 ns p h))

  of_replacements : AllByRecursion P (replacements i j)
  of_replacements =
      all_map P (λ (p : PlacedOf (DoItOf Text)). Replace p.place p.item) (other_doits 1 i.doits j.doits)
      (λ p h. has_map (λ (d : PlacedOf (DoItOf Text)). d.place) p (other_doits 1 i.doits j.doits) h)

  pub each_edit : AllByRecursion P (edits i j)
  each_edit =
      let last = all_append P (method_filings i j) (replacements i j) of_method_filings of_replacements in
      let methods = all_append P (method_removals i j) (method_filings i j ++ replacements i j) of_method_removals last in
      let filings = all_append P (class_filings i j) (method_removals i j ++ (method_filings i j ++ replacements i j)) of_class_filings methods in
      let removals = all_append P (class_removals i j) (class_filings i j ++ (method_removals i j ++ (method_filings i j ++ replacements i j))) of_class_removals filings in
      all_append P (clearings i j) (class_removals i j ++ (class_filings i j ++ (method_removals i j ++ (method_filings i j ++ replacements i j)))) of_clearings removals

  -- where nothing differs, no edit names what does
  nothing_named : NothingDiffers i j → (e : Edit) → EditsDifference i j e → ⊥
  nothing_named none Settle h = h
  nothing_named none (Put m k) h = subst (λ (xs : List (EntryOf Text)). Has (h.1).0 xs) (ap (λ (d : DifferenceOf). d.methods) none) (h.1).1
  nothing_named none (Replace k d) h = subst (λ (xs : List ℕ). Has k xs) (ap (λ (x : DifferenceOf). x.doits) none) h
  nothing_named none (Change change) h = by change h
    where
      no_class : (n : Text) → ClassDiffers i j n → ⊥
      no_class n d = subst (λ (xs : List (ClassOf Text)). Has d.0 xs) (ap (λ (x : DifferenceOf). x.classes) none) d.1

      by : (x : ChangeOf Text) → ChangesDifference i j x → ⊥
      by (Define d) k = no_class d.name k
      by (DefineAt d n) k = no_class d.name k
      by (Comment n text) k = no_class n k
      by (SetClassSide n names) k = no_class n k
      by (RemoveMethod owner meta s) k = subst (λ (xs : List (EntryOf Text)). Has k.0 xs) (ap (λ (x : DifferenceOf). x.methods) none) k.1
      by (RemoveClass n) k = no_class n k

  none_edited : NothingDiffers i j → edits i j ≡ []
  none_edited none = by (edits i j) each_edit
    where
      by : (es : List Edit) → AllByRecursion P es → es ≡ []
      by [] all = refl
      by (e ∷ es) all = absurd (nothing_named none e all.0)

  no_doits : (k : ℕ) (ds : List (DoItOf Text)) → other_doits k ds ds ≡ []
  no_doits k [] = refl
  no_doits k (d ∷ ds) = ap (λ (b : Bool). if b then other_doits (suc k) ds ds else record { place = k; item = d } ∷ other_doits (suc k) ds ds) (text_eq-refl d.source) ∙ no_doits (suc k) ds

  nothing_here : NothingDiffers j j
  nothing_here = λ k. record {
    classes = none_differs is_namesake is_equal_class namesake_same namesake_back class_same class_alike vs k;
    methods = none_differs is_counterpart is_equal_method counterpart_same counterpart_back method_same method_alike ns k;
    doits = map (λ (d : PlacedOf (DoItOf Text)). d.place) (no_doits 1 j.doits k);
  }

  pub none_where_same : HasRoot kernel → ◌≡◌ {A = List Edit} (edits i j) [] ↔ NothingDiffers i j
  none_where_same root = (λ none. subst (λ (x : ImageOf Text). NothingDiffers x j) (sym (same_where_none kernel i j c root none)) nothing_here, none_edited)
