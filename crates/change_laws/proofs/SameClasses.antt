-- Where no class differs, there are no edits of classes.
use Rattle.std.proofs.Common.{◌≡◌, inl, inr, ℕ, suc, Bool, true, not, List, [], ◌∷◌, ◌++◌, map, filter, Option, Some, None, refl, ap, sym, subst, ◌∙◌, true≢false}
use Rattle.std.specs.Prelude.{◌&&◌, codes, reverse, flat_map, if◌then◌else◌}
use Rattle.std.proofs.lemmas.Bool.{and_parts, eq-eqb}
use Rattle.rb_base.specs.Names.{text_eq}
use Rattle.image_model.specs.Image.{ClassOf, EntryOf, ImageOf}
use Rattle.file_model.specs.Changes.{RemoveClass}
use Rattle.file_model.specs.Filing.{Text}
use Rattle.file_model.specs.Hierarchy.{has_class}
use Rattle.file_model.specs.Places.{PlacedOf}
use Rattle.file_model.specs.Written.{run_of, user_classes, user_methods}
use Rattle.file_laws.proofs.PutAgain.{filter_all}
use Rattle.change_model.specs.Equal.{is_namesake, is_equal_class}
use Rattle.change_model.specs.Differs.{is_among, in_both, place_of, is_one_place, stays, differing_from, class_stays}
use Rattle.change_model.specs.Edits.{Edit, Change, cleared, filed, category_in, clearings, class_removals, class_filings}
use Rattle.change_model.specs.Edited.{AreMade, Over}
use Rattle.change_laws.specs.Merged.{Has, with_items, place_after, item_of}
use Rattle.change_laws.specs.Images.{CanBeMade, AreClassesMade, IsMade, at_rest, class_edits, bare, bare_classes, other_classes}
use Rattle.change_laws.proofs.Placing.{all_from}
use Rattle.change_laws.proofs.Orders.{any_has, none_pass}
use Rattle.change_laws.proofs.Tests.{namesake_same, class_same}
use Rattle.change_laws.proofs.Rest.{class_there}
use Rattle.change_laws.proofs.WholeChange.{makes}

pub one_with_itself : (o : Option ℕ) → is_one_place o o ≡ true
one_with_itself None = refl
one_with_itself (Some k) = eq-eqb k k refl

none_differ : {X : Type 0} (k : ℕ) (stay : X → Bool) (ys : List X) → ((y : X) → Has y ys → stay y ≡ true) → differing_from k stay ys ≡ []
none_differ k stay [] f = refl
none_differ k stay (y ∷ ys) f =
    ap (λ (b : Bool). if b then differing_from (suc k) stay ys else record { place = k; item = y } ∷ differing_from (suc k) stay ys) (f y (inl refl)) ∙ none_differ (suc k) stay ys (λ z h. f z (inr h))

all_unchanged : {X : Type 0} (f : X → X) (xs : List X) → ((x : X) → Has x xs → f x ≡ x) → map f xs ≡ xs
all_unchanged f [] e = refl
all_unchanged f (x ∷ xs) e = λ j. e x (inl refl) j ∷ all_unchanged f xs (λ z h. e z (inr h)) j

module _ (kernel i j : ImageOf Text) (c : CanBeMade kernel i j) (same : i.classes ≡ j.classes) where
  abbrev xs : List (ClassOf Text)
  xs = user_classes i

  lists : user_classes i ≡ user_classes j
  lists = ap (λ (cs : List (ClassOf Text)). filter (λ (d : ClassOf Text). not d.kernel) cs) same

  in_itself : (d : ClassOf Text) → Has d xs → stays is_namesake is_equal_class xs xs d ≡ true
  in_itself d h =
      (λ k. any_has (is_equal_class d) xs d h (class_same d) k && is_one_place (place_of (is_namesake d) (in_both is_namesake xs xs)) (place_of (is_namesake d) (in_both is_namesake xs xs)))
      ∙ one_with_itself (place_of (is_namesake d) (in_both is_namesake xs xs))

  stays_on : (d : ClassOf Text) → Has d xs → class_stays i j d ≡ true
  stays_on d h = subst (λ (ys : List (ClassOf Text)). stays is_namesake is_equal_class xs ys d ≡ true) lists (in_itself d h)

  stays_back : (d : ClassOf Text) → Has d (user_classes j) → class_stays j i d ≡ true
  stays_back d h = subst (λ (ys : List (ClassOf Text)). stays is_namesake is_equal_class ys xs d ≡ true) lists (in_itself d (subst (λ (ys : List (ClassOf Text)). Has d ys) (sym lists) h))

  among : (d : ClassOf Text) → Has d xs → is_among is_namesake (user_classes j) d ≡ true
  among d h = subst (λ (ys : List (ClassOf Text)). is_among is_namesake ys d ≡ true) lists (any_has (is_namesake d) xs d h (namesake_same d))

  no_others : other_classes i j ≡ []
  no_others = none_differ 1 (class_stays j i) (user_classes j) stays_back

  no_clearings : clearings i j ≡ []
  no_clearings = ap (λ (cs : List (ClassOf Text)). flat_map (cleared j) cs) (none_pass (λ d. not (class_stays i j d) && is_among is_namesake (user_classes j) d) xs (λ d h e. true≢false (sym (and_parts (not (class_stays i j d)) (is_among is_namesake (user_classes j) d) e).0 ∙ ap not (stays_on d h))))

  no_removals : class_removals i j ≡ []
  no_removals = ap (λ (cs : List (ClassOf Text)). map (λ (d : ClassOf Text). Change (RemoveClass d.name)) (reverse cs)) (none_pass (λ d. not (is_among is_namesake (user_classes j) d)) xs (λ d h e. true≢false (sym e ∙ ap not (among d h))))

  no_filings : class_filings i j ≡ []
  no_filings = ap (λ (ps : List (PlacedOf (ClassOf Text))). flat_map filed ps) no_others

  no_edits : class_edits i j ≡ []
  no_edits = λ k. no_clearings k ++ (no_removals k ++ no_filings k)

  bare_same : bare_classes i j ≡ xs
  bare_same =
      ap (map (bare i j)) (filter_all (is_among is_namesake (user_classes j)) xs (all_from (λ d. is_among is_namesake (user_classes j) d ≡ true) xs among))
      ∙ all_unchanged (bare i j) xs (λ d h. ap (λ (b : Bool). if b then d else record d { superclass = Some (codes "Object"); instance = []; shared = []; class_side = []; category = category_in j d }) (stays_on d h))

  its_class_too : (m : EntryOf Text) → Has m (user_methods i) → has_class text_eq j.classes (run_of m).class ≡ true
  its_class_too m h = subst (λ (cs : List (ClassOf Text)). has_class text_eq cs (run_of m).class ≡ true) same (class_there kernel i c.old m h)

  pub made_classes : AreClassesMade kernel i j
  made_classes = record {
    stage = at_rest i;
    made = subst (λ (es : List Edit). AreMade es (at_rest i) (at_rest i)) (sym no_edits) Over;
    filed = record {
      classes = c.old_first.classes ∙ ap (λ (cs : List (ClassOf Text)). kernel.classes ++ cs) (sym bare_same ∙ ap (λ (ps : List (PlacedOf (ClassOf Text))). with_items is_namesake (map item_of ps) (bare_classes i j)) (sym no_others));
      places = λ d. ap (λ (ps : List (PlacedOf (ClassOf Text))). place_after is_namesake ps (λ x. None) d) (sym no_others);
    };
    left = record {
      there = λ n h. subst (λ (cs : List (ClassOf Text)). has_class text_eq cs n ≡ true) (sym same) h;
      methods = c.old_first.methods ∙ ap (λ (ms : List (EntryOf Text)). kernel.methods ++ ms) (sym (filter_all (λ (m : EntryOf Text). has_class text_eq j.classes (run_of m).class) (user_methods i) (all_from (λ (m : EntryOf Text). has_class text_eq j.classes (run_of m).class ≡ true) (user_methods i) its_class_too)));
      no_places = refl;
      doits = refl;
      heads = refl;
    };
  }

  pub makes_same : IsMade i j
  makes_same = makes kernel i j c made_classes
