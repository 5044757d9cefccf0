-- Where two images differ: the classes, methods and do-its that one of them alone has, that are not equal in both, or that stand at another place among those that both have.
use Rattle.std.specs.Prelude.{ℕ, suc, List, [], ◌∷◌, ◌++◌, map, filter, Bool, true, false, not, ◌&&◌, ◌==◌, if◌then◌else◌, Option, Some, None}
use Rattle.std.specs.List.{list_any}
use Rattle.std.specs.Option.{option_map}
use Rattle.rb_base.specs.Names.{text_eq}
use Rattle.image_model.specs.Image.{ClassOf, EntryOf, DoItOf, ImageOf}
use Rattle.file_model.specs.Filing.{Text}
use Rattle.file_model.specs.Places.{PlacedOf}
use Rattle.file_model.specs.Written.{user_classes, user_methods}
use Rattle.change_model.specs.Equal.{is_namesake, is_counterpart, is_equal_class, is_equal_method}

-- whether one of the items is alike
abbrev pub is_among : {X : Type 0} → (X → X → Bool) → List X → X → Bool
is_among alike xs x = list_any (alike x) xs

-- the items that others have too
abbrev pub in_both : {X : Type 0} → (X → X → Bool) → List X → List X → List X
in_both alike xs ys = filter (is_among alike ys) xs

-- the place of the first item that passes
abbrev pub place_of : {X : Type 0} → (X → Bool) → List X → Option ℕ
place_of p [] = None
place_of p (x ∷ xs) = if p x then Some 0 else option_map suc (place_of p xs)

-- whether two places are one
abbrev pub is_one_place : Option ℕ → Option ℕ → Bool
is_one_place None None = true
is_one_place None (Some k) = false
is_one_place (Some j) None = false
is_one_place (Some j) (Some k) = j == k

-- whether an item of the first list is in the second as it is, at the same place among the items that both have
abbrev pub stays : {X : Type 0} → (X → X → Bool) → (X → X → Bool) → List X → List X → X → Bool
stays alike equal xs ys x =
    is_among equal ys x && is_one_place (place_of (alike x) (in_both alike xs ys)) (place_of (alike x) (in_both alike ys xs))

-- the items of the first list that differ, with their places in it, counted from a number
abbrev pub differing_from : {X : Type 0} → ℕ → (X → Bool) → List X → List (PlacedOf X)
differing_from k stay [] = []
differing_from k stay (x ∷ xs) =
    if stay x then differing_from (suc k) stay xs else record { place = k; item = x } ∷ differing_from (suc k) stay xs

-- whether a class of the first image is in the second as it is
abbrev pub class_stays : ImageOf Text → ImageOf Text → ClassOf Text → Bool
class_stays i j = stays is_namesake is_equal_class (user_classes i) (user_classes j)

-- whether a method of the first image is in the second as it is
abbrev pub method_stays : ImageOf Text → ImageOf Text → EntryOf Text → Bool
method_stays i j = stays is_counterpart is_equal_method (user_methods i) (user_methods j)

-- the do-its of the second list that differ from the one of the first at the same place, with their places, counted from a number
abbrev pub other_doits : ℕ → List (DoItOf Text) → List (DoItOf Text) → List (PlacedOf (DoItOf Text))
other_doits k ds [] = []
other_doits k [] (e ∷ es) = record { place = k; item = e } ∷ other_doits (suc k) [] es
other_doits k (d ∷ ds) (e ∷ es) =
    if text_eq d.source e.source then other_doits (suc k) ds es else record { place = k; item = e } ∷ other_doits (suc k) ds es

-- what differs, the first image's in order and then those of the second alone: classes, methods, and the numbers of do-its
pub record DifferenceOf : Type 0 where
  pub classes : List (ClassOf Text)
  pub methods : List (EntryOf Text)
  pub doits : List ℕ

-- the items of two lists that differ
abbrev pub differing : {X : Type 0} → (X → X → Bool) → (X → X → Bool) → List X → List X → List X
differing alike equal xs ys = filter (λ x. not (stays alike equal xs ys x)) xs ++ filter (λ y. not (is_among alike xs y)) ys

-- where two images with as many do-its differ
abbrev pub differs : ImageOf Text → ImageOf Text → DifferenceOf
differs i j = record {
  classes = differing is_namesake is_equal_class (user_classes i) (user_classes j);
  methods = differing is_counterpart is_equal_method (user_methods i) (user_methods j);
  doits = map (λ (d : PlacedOf (DoItOf Text)). d.place) (other_doits 1 i.doits j.doits);
}
