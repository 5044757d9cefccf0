-- Each edit that leads from one valid image to another can be stated.
use Rattle.std.proofs.Common.{◌≡◌, inl, inr, ℕ, suc, ◌+◌, ◌≤◌, ◌<◌, ◌^◌, ◌↔◌, Bool, true, false, not, List, [], ◌∷◌, ◌++◌, length, filter, Option, Some, None, slice_get, refl, ap, sym, subst, arith, length-append, true≢false}
use Rattle.std.specs.Prelude.{codes, cond, reverse, flat_map, unwrap_or, ◌&&◌, ◌==◌, if◌then◌else◌, is_some, IsTrue}
use Rattle.std.specs.List.{AllByRecursion}
use Rattle.std.proofs.lemmas.Bool.{not-true}
use Rattle.std.proofs.lemmas.List.Sorted.{IsPermutation-reverse}
use Rattle.rb_base.specs.Names.{text_eq}
use Rattle.token_model.specs.declared.kind.Dialect.TheVariants.{Second}
use Rattle.scope_model.specs.SpecialNames.{is_pseudo_variable}
use Rattle.text_model.specs.Literals.{is_selector}
use Rattle.image_model.specs.Image.{ClassOf, EntryOf, DoItOf, ImageOf}
use Rattle.image_model.specs.Chain.{class_named}
use Rattle.image_model.specs.Words.{text_words}
use Rattle.image_model.specs.Valid.{HasNoRepeat, class_names, IsValid, GivesNames, HasClass, IsUserDoIt}
use Rattle.image_model.proofs.Ends.{contains-place}
use Rattle.image_model.proofs.Lists.{all-map}
use Rattle.file_model.specs.Changes.{Comment, SetClassSide, RemoveClass}
use Rattle.file_model.specs.Fileable.{MayStand, reading_of}
use Rattle.file_model.specs.Filing.{Text}
use Rattle.file_model.specs.Hierarchy.{has_class}
use Rattle.file_model.specs.Places.{PlacedOf}
use Rattle.file_model.specs.Written.{run_of, user_classes, user_methods}
use Rattle.file_laws.proofs.Moves.{text_equal, All-append}
use Rattle.file_laws.proofs.Redefined.{no_repeat_behind}
use Rattle.file_laws.proofs.SettledAgain.{All-reordered}
use Rattle.file_rereading.specs.Rereading.{KernelFirst}
use Rattle.file_rereading.proofs.Fresh.{all_back}
use Rattle.file_rereading.proofs.Prefixes.{named_given}
use Rattle.change_model.specs.Equal.{is_namesake, is_counterpart}
use Rattle.change_model.specs.Differs.{is_among, differing_from, class_stays, method_stays, other_doits}
use Rattle.change_model.specs.Edits.{Edit, Change, Put, Replace, definition_of, cleared, filed, removal, clearings, class_removals, class_filings, method_removals, method_filings, replacements, edits}
use Rattle.change_laws.specs.Merged.{Has}
use Rattle.change_laws.specs.Images.{CanBeMade}
use Rattle.change_laws.proofs.Images.{spelled}
use Rattle.change_laws.proofs.Orders.{filter_has}
use Rattle.change_laws.proofs.Placing.{all_has, all_from}
use Rattle.change_laws.proofs.Tests.{has_at}
use Rattle.change_file_laws.specs.Stated.{MayName, IsStatedNumber, IsStatedDefinition, IsStated}
use Rattle.change_file_laws.proofs.Selectors.{method_selects}

-- what is made of each item
pub all_each : {X : Type 0} (P : Edit → Type 0) (f : X → List Edit) (xs : List X) → ((x : X) → Has x xs → AllByRecursion P (f x)) → AllByRecursion P (flat_map f xs)
all_each P f [] h = tt
all_each P f (x ∷ xs) h = All-append P (f x) (flat_map f xs) (h x (inl refl)) (all_each P f xs (λ y k. h y (inr k)))

-- items that differ, with their places
all_differing : {X : Type 0} (P : PlacedOf X → Type 0) (stay : X → Bool) (k : ℕ) (ys : List X) → ((p : PlacedOf X) → k ≤ p.place → p.place < k + length ys → Has p.item ys → P p) → AllByRecursion P (differing_from k stay ys)
all_differing P stay k [] f = tt
all_differing P stay k (y ∷ ys) f = by (stay y) (all_differing P stay (suc k) ys (λ p a b h. f p (omega arith) (omega arith) (inr h)))
  where
    by : (b : Bool) → AllByRecursion P (differing_from (suc k) stay ys) → AllByRecursion P (if b then differing_from (suc k) stay ys else record { place = k; item = y } ∷ differing_from (suc k) stay ys)
    by true rest = rest
    by false rest = (f (record { place = k; item = y }) (omega arith) (omega arith) (inl refl), rest)

-- do-its that differ, with their numbers
all_other : (P : PlacedOf (DoItOf Text) → Type 0) (k : ℕ) (ds es : List (DoItOf Text)) → ((p : PlacedOf (DoItOf Text)) → k ≤ p.place → p.place < k + length es → Has p.item es → P p) → AllByRecursion P (other_doits k ds es)
all_other P k ds [] f = none ds
  where
    none : (xs : List (DoItOf Text)) → AllByRecursion P (other_doits k xs [])
    none [] = tt
    none (x ∷ xs) = tt
all_other P k [] (e ∷ es) f = (f (record { place = k; item = e }) (omega arith) (omega arith) (inl refl), all_other P (suc k) [] es (λ p a b h. f p (omega arith) (omega arith) (inr h)))
all_other P k (d ∷ ds) (e ∷ es) f = by (text_eq d.source e.source) (all_other P (suc k) ds es (λ p a b h. f p (omega arith) (omega arith) (inr h)))
  where
    by : (b : Bool) → AllByRecursion P (other_doits (suc k) ds es) → AllByRecursion P (if b then other_doits (suc k) ds es else record { place = k; item = e } ∷ other_doits (suc k) ds es)
    by true rest = rest
    by false rest = (f (record { place = k; item = e }) (omega arith) (omega arith) (inl refl), rest)

-- classes of another name than one before them
differ : (n : Text) (cs : List (ClassOf Text)) → ((j : ℕ) → slice_get (class_names cs) j ≡ Some n → ⊥) → AllByRecursion (λ c. c.name ≡ n → ⊥) cs
differ n [] none = tt
differ n (c ∷ cs) none = ((λ e. none 0 (ap Some e)), differ n cs (λ j e. none (suc j) e))

-- classes behind some that have a name do not have it
apart : (front users : List (ClassOf Text)) (n : Text) → HasNoRepeat (class_names (front ++ users)) → has_class text_eq front n ≡ true → AllByRecursion (λ c. c.name ≡ n → ⊥) users
apart [] users n once there = absurd (true≢false (sym there))
apart (x ∷ xs) users n once there = by (text_eq n x.name) refl there (λ h. apart xs users n (no_repeat_behind x.name (class_names (xs ++ users)) once) h)
  where
    by : (b : Bool) → text_eq n x.name ≡ b → is_some (cond b (Some x) (class_named text_eq xs n)) ≡ true → (has_class text_eq xs n ≡ true → AllByRecursion (λ c. c.name ≡ n → ⊥) users) → AllByRecursion (λ c. c.name ≡ n → ⊥) users
    by true e h rest =
        let same : n ≡ x.name = text_equal n x.name e in
        all_back (λ (c : ClassOf Text). c.name ≡ n → ⊥) xs users
        (differ n (xs ++ users) (λ j f. let twice : 0 ≡ suc j = once 0 (suc j) n (ap Some (sym same)) f in omega (arith, twice)))
    by false e h rest = rest h

-- `Object` may be given
object_named : MayName (codes "Object")
unfolding is_pseudo_variable
object_named = refl

-- a numeral of at most nine digits
stated_within : (k n : ℕ) → 1 ≤ k → k < 1 + n → n ≤ 200000 → IsStatedNumber k
stated_within k n from to few = record { from = from; to = omega (arith, to, few) }

module _ (kernel i : ImageOf Text) (valid : IsValid text_words (reading_of Second kernel) i) where
  -- the classes of the user are classes of the image
  class_there : (c : ClassOf Text) → Has c (user_classes i) → Has c i.classes
  class_there c h = (filter_has (λ (d : ClassOf Text). not d.kernel) i.classes c h).there

  gives : (c : ClassOf Text) → Has c (user_classes i) → GivesNames MayName c
  gives c h = all_has (GivesNames MayName) i.classes c valid.names_may_be_given (class_there c h)

  -- so are the classes of methods
  class_named_well : (m : EntryOf Text) → Has m (user_methods i) → MayName (run_of m).class
  class_named_well m h =
      let f = filter_has (λ (x : EntryOf Text). not x.kernel) i.methods m h in
      let has = all_has (HasClass i.classes) i.methods m valid.method_classes_there f.there in
      let place = contains-place (class_names i.classes) has.0 has.2 in
      let name : has.0 ≡ (run_of m).class = ap (λ (o : Option Text). unwrap_or o []) (sym has.1) in
      subst MayName name (named_given i.classes valid.names_may_be_given place.0 has.0 place.1)

  selects : (m : EntryOf Text) → Has m (user_methods i) → is_selector m.tree.selector ≡ true
  selects m h = method_selects m.source m.tree (spelled kernel i valid m h).spells

  -- a class of the user is defined under another
  defined_well : has_class text_eq kernel.classes (codes "Object") ≡ true → KernelFirst kernel i → (c : ClassOf Text) → Has c (user_classes i) → (p : Text) → c.superclass ≡ Some p → MayName p
  defined_well root first c h p under =
      let place = has_at i.classes c (class_there c h) in
      let above = valid.superclasses_before place.0 c p place.1 under in
      named_given i.classes valid.names_may_be_given above.0 p above.2

  has_above : has_class text_eq kernel.classes (codes "Object") ≡ true → KernelFirst kernel i → (c : ClassOf Text) → Has c (user_classes i) → (p : Text) × (c.superclass ≡ Some p)
  has_above root first c h = by c.superclass refl
    where
      others : AllByRecursion (λ (d : ClassOf Text). d.name ≡ codes "Object" → ⊥) (user_classes i)
      others = apart kernel.classes (user_classes i) (codes "Object") (subst (λ (cs : List (ClassOf Text)). HasNoRepeat (class_names cs)) first.classes valid.class_names_distinct) root

      only : IsTrue (text_eq (codes "Object") c.name) ↔ (c.superclass ≡ None)
      only = all_has (λ (d : ClassOf Text). IsTrue (text_eq (codes "Object") d.name) ↔ (d.superclass ≡ None)) i.classes c valid.only_object_is_root (class_there c h)

      by : (o : Option Text) → c.superclass ≡ o → (p : Text) × (c.superclass ≡ Some p)
      by None e = absurd (all_has (λ (d : ClassOf Text). d.name ≡ codes "Object" → ⊥) (user_classes i) c others h (sym (text_equal (codes "Object") c.name (only.1 e))))
      by (Some p) e = (p, e)

module _ (kernel i j : ImageOf Text) (c : CanBeMade kernel i j) (root : has_class text_eq kernel.classes (codes "Object") ≡ true) (few_doits : length j.doits < 10 ^ 9) where
  few_classes : length (user_classes j) ≤ 200000
  few_classes = let whole : length j.classes ≡ length (kernel.classes ++ user_classes j) = ap (λ (cs : List (ClassOf Text)). length cs) c.new_first.classes in omega (arith, whole, length-append kernel.classes (user_classes j), c.few.classes)

  few_methods : length (user_methods j) ≤ 200000
  few_methods = let whole : length j.methods ≡ length (kernel.methods ++ user_methods j) = ap (λ (ms : List (EntryOf Text)). length ms) c.new_first.methods in omega (arith, whole, length-append kernel.methods (user_methods j), c.few.methods)

  stated_clearings : AllByRecursion IsStated (clearings i j)
  stated_clearings =
      let p : ClassOf Text → Bool = λ d. not (class_stays i j d) && is_among is_namesake (user_classes j) d in
      all_each IsStated (cleared j) (filter p (user_classes i)) (λ d h.
      let named = (gives kernel i c.old d (filter_has p (user_classes i) d h).there).name in
      (record { above = codes "Object"; under = refl; above_named = object_named; named = named; instance = tt; shared = tt }, ((named, tt), tt)))

  stated_class_removals : AllByRecursion IsStated (class_removals i j)
  stated_class_removals =
      let p : ClassOf Text → Bool = λ d. not (is_among is_namesake (user_classes j) d) in
      let gone = filter p (user_classes i) in
      all-map IsStated (λ (d : ClassOf Text). Change (RemoveClass d.name)) (reverse gone)
      (All-reordered (λ (d : ClassOf Text). MayName d.name) gone (reverse gone) (IsPermutation-reverse gone)
      (all_from (λ (d : ClassOf Text). MayName d.name) gone (λ d h. (gives kernel i c.old d (filter_has p (user_classes i) d h).there).name)))

  stated_filed : (p : PlacedOf (ClassOf Text)) → 1 ≤ p.place → p.place < 1 + length (user_classes j) → Has p.item (user_classes j) → AllByRecursion IsStated (filed p)
  stated_filed p from to h =
      let g = gives kernel j c.new p.item h in
      let above = has_above kernel j c.new root c.new_first p.item h in
      let definition : IsStatedDefinition (definition_of p.item) = record { above = above.0; under = above.1; above_named = defined_well kernel j c.new root c.new_first p.item h above.0 above.1; named = g.name; instance = g.instance; shared = g.shared } in
      ((definition, stated_within p.place (length (user_classes j)) from to few_classes), by (length p.item.class_side == 0) g)
    where
      by : (b : Bool) → GivesNames MayName p.item → AllByRecursion IsStated ((if b then [] else Change (SetClassSide p.item.name p.item.class_side) ∷ []) ++ Change (Comment p.item.name p.item.comment) ∷ [])
      by true g = (g.name, tt)
      by false g = ((g.name, g.class_side), (g.name, tt))

  stated_class_filings : AllByRecursion IsStated (class_filings i j)
  stated_class_filings = flat (differing_from 1 (class_stays j i) (user_classes j)) (all_differing (λ p. AllByRecursion IsStated (filed p)) (class_stays j i) 1 (user_classes j) stated_filed)
    where
      flat : (ps : List (PlacedOf (ClassOf Text))) → AllByRecursion (λ p. AllByRecursion IsStated (filed p)) ps → AllByRecursion IsStated (flat_map filed ps)
      flat [] all = tt
      flat (p ∷ ps) all = All-append IsStated (filed p) (flat_map filed ps) all.0 (flat ps all.1)

  stated_method_removals : AllByRecursion IsStated (method_removals i j)
  stated_method_removals =
      let p : EntryOf Text → Bool = λ m. not (is_among is_counterpart (user_methods j) m) && has_class text_eq j.classes (run_of m).class in
      all-map IsStated removal (filter p (user_methods i))
      (all_from (λ (m : EntryOf Text). MayName (run_of m).class × (is_selector m.tree.selector ≡ true)) (filter p (user_methods i)) (λ m h.
      let there = (filter_has p (user_methods i) m h).there in (class_named_well kernel i c.old m there, selects kernel i c.old m there)))

  stated_method_filings : AllByRecursion IsStated (method_filings i j)
  stated_method_filings =
      all-map IsStated (λ (p : PlacedOf (EntryOf Text)). Put p.item p.place) (differing_from 1 (method_stays j i) (user_methods j))
      (all_differing (λ p. IsStated (Put p.item p.place)) (method_stays j i) 1 (user_methods j) (λ p from to h.
      let f = filter_has (λ (x : EntryOf Text). not x.kernel) j.methods p.item h in
      record {
        class = class_named_well kernel j c.new p.item h;
        spells = (spelled kernel j c.new p.item h).spells;
        stands = all_has (λ (m : EntryOf Text). m.kernel ≡ false → MayStand m.source) j.methods p.item c.new_fileable.method_sources f.there (not-true p.item.kernel f.passes);
        place = stated_within p.place (length (user_methods j)) from to few_methods;
      }))

  stated_replacements : AllByRecursion IsStated (replacements i j)
  stated_replacements =
      all-map IsStated (λ (p : PlacedOf (DoItOf Text)). Replace p.place p.item) (other_doits 1 i.doits j.doits)
      (all_other (λ p. IsStated (Replace p.place p.item)) 1 i.doits j.doits (λ p from to h. record {
        number = record { from = from; to = omega (arith, to, few_doits) };
        spells = (all_has (IsUserDoIt (reading_of Second kernel)) j.doits p.item c.new.doits h).spells;
      }))

  -- all edits
  pub stated_edits : AllByRecursion IsStated (edits i j)
  stated_edits =
      let fifth = method_filings i j ++ replacements i j in
      let fourth = method_removals i j ++ fifth in
      let third = class_filings i j ++ fourth in
      let second = class_removals i j ++ third in
      All-append IsStated (clearings i j) second stated_clearings
      (All-append IsStated (class_removals i j) third stated_class_removals
      (All-append IsStated (class_filings i j) fourth stated_class_filings
      (All-append IsStated (method_removals i j) fifth stated_method_removals
      (All-append IsStated (method_filings i j) (replacements i j) stated_method_filings stated_replacements))))
