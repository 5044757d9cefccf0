-- The classes and the methods of valid images.
use Rattle.std.proofs.Common.{◌≡◌, ◌⊎◌, inl, inr, ℕ, ◌+◌, ◌≤◌, Bool, true, false, not, List, [], ◌∷◌, ◌++◌, length, map, filter, Option, Some, None, refl, ap, sym, subst, ◌∙◌, arith, length-append, true≢false}
use Rattle.std.specs.Prelude.{unwrap_or, slice_get}
use Rattle.std.specs.List.{AllByRecursion}
use Rattle.file_model.specs.Hierarchy.{has_class}
use Rattle.std.proofs.lemmas.Bool.{not-true}
use Rattle.rb_base.specs.Names.{text_eq}
use Rattle.token_model.specs.declared.kind.Dialect.TheVariants.{Second}
use Rattle.image_model.specs.Image.{ClassOf, EntryOf, ImageOf}
use Rattle.image_model.specs.Words.{text_words}
use Rattle.image_model.specs.Valid.{IsValid, HasClass, IsUserMethod, signature}
use Rattle.file_model.specs.Fileable.{reading_of}
use Rattle.file_model.specs.Filing.{Text}
use Rattle.file_model.specs.Places.{PlacedOf, method_place, put_again, put_again_behind}
use Rattle.file_model.specs.Written.{run_of, user_classes, user_methods}
use Rattle.file_laws.proofs.Moves.{text_equal}
use Rattle.file_laws.proofs.Methods.{its_signature}
use Rattle.file_laws.proofs.PutAgain.{filter_all, filter_none, filter_not_all, filter_not_none, filter_pass}
use Rattle.std.proofs.lemmas.List.Elements.{filter-append}
use Rattle.std.proofs.lemmas.List.{append-nil}
use Rattle.change_model.specs.Equal.{is_namesake, is_counterpart, is_equal_class, is_equal_method}
use Rattle.change_model.specs.Differs.{is_among, in_both, differing_from, method_stays}
use Rattle.change_model.specs.Edits.{method_filings}
use Rattle.change_model.specs.Edited.{Stage, AreMade}
use Rattle.change_laws.specs.Merged.{Has, AreApart, with_items, place_after, item_of, brought}
use Rattle.change_laws.specs.Images.{CanBeMade, AwaitsMethods, HasMethods}
use Rattle.change_laws.proofs.Placing.{all_has, all_from}
use Rattle.change_laws.proofs.Orders.{filter_has, apart_filter}
use Rattle.change_laws.proofs.Puts.{all_come, Remains}
use Rattle.change_laws.proofs.Filed.{its_place, brings, its_item}
use Rattle.change_laws.proofs.MethodsFiled.{IsUsers, is_its, places_puts, steps, places_are, classes_stay, place_after_at, same_places}
use Rattle.change_laws.proofs.Tests.{namesake_same, namesake_back, namesake_through, class_same, class_alike, class_equal, counterparts, counterpart_same, counterpart_back, counterpart_through, method_same, method_alike, method_equal, IsSpelled, apart_from, has_at, at_map}

module _ (kernel i : ImageOf Text) (valid : IsValid text_words (reading_of Second kernel) i) where
  -- no two classes of a name
  pub classes_apart : AreApart is_namesake (user_classes i)
  classes_apart =
      apart_filter is_namesake namesake_same namesake_back (λ (c : ClassOf Text). not c.kernel) i.classes
      (apart_from (λ (c : ClassOf Text). c.name) is_namesake i.classes (λ c d h k e. text_equal c.name d.name e) valid.class_names_distinct)

  class_of : (m : EntryOf Text) → HasClass i.classes m → m.class ≡ Some (run_of m).class
  class_of m h = h.1 ∙ sym (ap (λ (o : Option Text). Some (unwrap_or o [])) h.1)

  tells : (m n : EntryOf Text) → Has m i.methods → Has n i.methods → is_counterpart m n ≡ true → signature m ≡ signature n
  tells m n h k e =
      let c = counterparts m n e in
      let one = class_of m (all_has (HasClass i.classes) i.methods m valid.method_classes_there h) in
      let two = class_of n (all_has (HasClass i.classes) i.methods n valid.method_classes_there k) in
      let class : m.class ≡ n.class = one ∙ ap Some c.class ∙ sym two in
      λ j. (class j, c.meta j, c.selector j)

  all_apart : AreApart is_counterpart i.methods
  all_apart = apart_from signature is_counterpart i.methods tells valid.methods_once

  -- no two methods of a class, a side and a selector
  pub methods_apart : AreApart is_counterpart (user_methods i)
  methods_apart = apart_filter is_counterpart counterpart_same counterpart_back (λ (m : EntryOf Text). not m.kernel) i.methods all_apart

  -- the methods of the user
  pub user_of : (m : EntryOf Text) → Has m (user_methods i) → IsUsers m
  user_of m h =
      let f = filter_has (λ (e : EntryOf Text). not e.kernel) i.methods m h in
      record { class = class_of m (all_has (HasClass i.classes) i.methods m valid.method_classes_there f.there); user = not-true m.kernel f.passes }

  pub spelled : (m : EntryOf Text) → Has m (user_methods i) → IsSpelled m
  spelled m h =
      let f = filter_has (λ (e : EntryOf Text). not e.kernel) i.methods m h in
      let u = user_of m h in
      record { class = u.class; spells = (all_has (λ (e : EntryOf Text). e.kernel ≡ false → IsUserMethod (reading_of Second kernel) e) i.methods m valid.user_methods f.there u.user).spells }

  -- those of the kernel have other signatures
  pub other_of_kernel : (m e : EntryOf Text) → Has m (user_methods i) → Has e i.methods → e.kernel ≡ true → is_its m e ≡ false
  other_of_kernel m e h k mark = by (is_its m e) refl
    where
      u : IsUsers m
      u = user_of m h

      f : Has m i.methods
      f = (filter_has (λ (x : EntryOf Text). not x.kernel) i.methods m h).there

      by : (b : Bool) → is_its m e ≡ b → b ≡ false
      by false q = refl
      by true q =
          let own : ◌≡◌ {A = Option Text × Bool × Text} (Some (run_of m).class, m.meta, m.tree.selector) (signature m) = λ j. (sym u.class j, m.meta, m.tree.selector) in
          let same : signature m ≡ signature e = sym own ∙ its_signature (run_of m).class m.meta m.tree.selector e q in
          let one = has_at i.methods m f in
          let two = has_at i.methods e k in
          absurd (true≢false (sym mark ∙ sym (ap (λ (x : EntryOf Text). x.kernel) (once one.0 two.0 one.1 two.1 same)) ∙ u.user))
        where
          once : (a b : ℕ) → slice_get i.methods a ≡ Some m → slice_get i.methods b ≡ Some e → signature m ≡ signature e → m ≡ e
          once a b p q same = at (valid.methods_once a b (signature m) (at_map signature i.methods a m p) (at_map signature i.methods b e q ∙ ap Some (sym same)))
            where
              at : a ≡ b → m ≡ e
              at s = let one : Some m ≡ Some e = sym p ∙ ap (λ (n : ℕ). slice_get i.methods n) s ∙ q in cc

module _ (kernel i j : ImageOf Text) (old : IsValid text_words (reading_of Second kernel) i) (new : IsValid text_words (reading_of Second kernel) j) where
  -- the classes of one image come to be those of the other
  pub brings_classes : brought is_namesake is_equal_class (user_classes i) (user_classes j) ≡ user_classes j
  brings_classes =
      brings is_namesake namesake_same namesake_back namesake_through is_equal_class class_same class_alike (user_classes i) (user_classes j) (classes_apart kernel i old) (classes_apart kernel j new)
      (λ c d h k e. class_equal c d e) (λ c d h k e. class_equal d c e)

  -- and the methods
  pub brings_methods : brought is_counterpart is_equal_method (user_methods i) (user_methods j) ≡ user_methods j
  brings_methods =
      brings is_counterpart counterpart_same counterpart_back counterpart_through is_equal_method method_same method_alike (user_methods i) (user_methods j) (methods_apart kernel i old) (methods_apart kernel j new)
      (λ m n h k e. method_equal m n (spelled kernel i old m h) (spelled kernel j new n k) e) (λ m n h k e. method_equal n m (spelled kernel j new n k) (spelled kernel i old m h) e)

-- the methods that differ are filed in
module _ (kernel i j : ImageOf Text) (c : CanBeMade kernel i j) where
  abbrev ds : List (PlacedOf (EntryOf Text))
  ds = differing_from 1 (method_stays j i) (user_methods j)

  abbrev left : List (EntryOf Text)
  left = in_both is_counterpart (user_methods i) (user_methods j)

  abbrev now : List (EntryOf Text)
  now = with_items is_counterpart (map item_of ds) left

  marked : AllByRecursion (λ (m : EntryOf Text). m.kernel ≡ true) kernel.methods
  marked = subst (AllByRecursion (λ (m : EntryOf Text). m.kernel ≡ true)) c.new.kernel_methods (filter_pass (λ (m : EntryOf Text). m.kernel) j.methods)

  in_new : (m : EntryOf Text) → Has m kernel.methods → Has m j.methods
  in_new m h = subst (λ (ms : List (EntryOf Text)). Has m ms) (sym c.new_first.methods) (in_front kernel.methods h)
    where
      in_front : (ms : List (EntryOf Text)) → Has m ms → Has m (ms ++ user_methods j)
      in_front [] k = absurd k
      in_front (x ∷ xs) (inl e) = inl e
      in_front (x ∷ xs) (inr k) = inr (in_front xs k)

  others : (m e : EntryOf Text) → Has m (user_methods j) → Has e kernel.methods → is_its m e ≡ false
  others m e h k = other_of_kernel kernel j c.new m e h (in_new e k) (all_has (λ (x : EntryOf Text). x.kernel ≡ true) kernel.methods e marked k)

  few : length kernel.methods + length (user_methods j) ≤ 200000
  few = let whole : length j.methods ≡ length (kernel.methods ++ user_methods j) = ap (λ (ms : List (EntryOf Text)). length ms) c.new_first.methods in omega (arith, whole, length-append kernel.methods (user_methods j), c.few.methods)

  left_users : (e : EntryOf Text) → Has e left → IsUsers e
  left_users e h = user_of kernel i c.old e (filter_has (is_among is_counterpart (user_methods j)) (user_methods i) e h).there

  item_there : (p : PlacedOf (EntryOf Text)) → Has p ds → Has p.item (user_methods j)
  item_there p h = its_item is_counterpart counterpart_same counterpart_back counterpart_through (method_stays j i) 1 (user_methods j) p h

  item_of_some : (ps : List (PlacedOf (EntryOf Text))) (m : EntryOf Text) → ((p : PlacedOf (EntryOf Text)) → Has p ps → Has p.item (user_methods j)) → Has m (map item_of ps) → Has m (user_methods j)
  item_of_some [] m f h = absurd h
  item_of_some (p ∷ ps) m f (inl e) = subst (λ (x : EntryOf Text). Has x (user_methods j)) (sym e) (f p (inl refl))
  item_of_some (p ∷ ps) m f (inr h) = item_of_some ps m (λ q k. f q (inr k)) h

  now_users : (e : EntryOf Text) → Has e now → IsUsers e
  now_users e h = by (all_come is_counterpart counterpart_same counterpart_back counterpart_through (map item_of ds) left e h)
    where
      by : Has e (map item_of ds) ⊎ Remains is_counterpart counterpart_same counterpart_back counterpart_through (map item_of ds) left e → IsUsers e
      by (inl k) = user_of kernel j c.new e (item_of_some ds e item_there k)
      by (inr r) = left_users e r.there

  pub files_methods : (s : Stage) → AwaitsMethods kernel i j s → HasMethods i j s
  files_methods s w = record {
    end = record { image = record s.image { methods = kernel.methods ++ now }; places = places_puts ds s.places };
    made = subst (λ (t : Stage). AreMade (method_filings i j) t (record { image = record s.image { methods = kernel.methods ++ now }; places = places_puts ds s.places })) begins
        (steps s.image kernel.methods (user_methods j) (user_of kernel j c.new) others (λ m h. all_has (λ (x : EntryOf Text). has_class text_eq s.image.classes (run_of x).class ≡ true) (user_methods j) m w.there h) few ds left s.places item_there (λ p h. its_place (method_stays j i) 1 (user_methods j) p h)
        (record {
          all_users = left_users;
          apart = apart_filter is_counterpart counterpart_same counterpart_back (is_among is_counterpart (user_methods j)) (user_methods i) (methods_apart kernel i c.old);
          known = λ e h. (filter_has (is_among is_counterpart (user_methods j)) (user_methods i) e h).passes;
        }));
    others = refl;
    class_places = classes_stay ds s.places;
    settled_methods = settled;
  }
    where
      begins : ◌≡◌ {A = Stage} (record { image = record s.image { methods = kernel.methods ++ left }; places = s.places }) s
      begins = λ k. record { image = record s.image { methods = sym w.methods k }; places = s.places }

      place : EntryOf Text → Option ℕ
      place = method_place text_eq (places_puts ds s.places).methods

      stated : (m : EntryOf Text) → Has m now → place m ≡ place_after is_counterpart ds (λ x. None) m
      stated m h = places_are ds s.places m (now_users m h) ∙ place_after_at ds (method_place text_eq s.places.methods) (λ x. None) m (ap (λ (ps : List _). method_place text_eq ps m) w.no_places)

      not_of_kernel : AllByRecursion (λ (m : EntryOf Text). m.kernel ≡ false) now
      not_of_kernel = all_from (λ (m : EntryOf Text). m.kernel ≡ false) now (λ m h. (now_users m h).user)

      settled : put_again_behind (λ (m : EntryOf Text). m.kernel) place (kernel.methods ++ now) ≡ j.methods
      settled =
          (λ k. front k ++ put_again place (back k))
          ∙ ap (λ (ms : List (EntryOf Text)). kernel.methods ++ ms) (same_places place (place_after is_counterpart ds (λ x. None)) now stated ∙ brings_methods kernel i j c.old c.new)
          ∙ sym c.new_first.methods
        where
          front : filter (λ (m : EntryOf Text). m.kernel) (kernel.methods ++ now) ≡ kernel.methods
          front = filter-append (λ (m : EntryOf Text). m.kernel) kernel.methods now ∙ (λ k. filter_all (λ (m : EntryOf Text). m.kernel) kernel.methods marked k ++ filter_none (λ (m : EntryOf Text). m.kernel) now not_of_kernel k) ∙ append-nil kernel.methods

          back : filter (λ (m : EntryOf Text). not m.kernel) (kernel.methods ++ now) ≡ now
          back = filter-append (λ (m : EntryOf Text). not m.kernel) kernel.methods now ∙ (λ k. filter_not_all (λ (m : EntryOf Text). m.kernel) kernel.methods marked k ++ filter_not_none (λ (m : EntryOf Text). m.kernel) now not_of_kernel k)
