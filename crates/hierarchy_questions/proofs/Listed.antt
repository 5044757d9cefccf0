-- Whether methods that are looked at name a variable is asked of the places that are listed under it.
use Rattle.std.proofs.Common.{◌≡◌, ℕ, ◌&&◌, ◌||◌, not, Bool, true, false, List, [], ◌∷◌, refl, sym, ap, ◌∙◌, true≢false}
use Rattle.std.specs.Prelude.{nat_eq}
use Rattle.std.specs.List.{list_any}
use Rattle.std.proofs.lemmas.Bool.{and_parts}
use Rattle.image_model.specs.Image.{EntryOf, DoItOf}
use Rattle.rename_model.specs.Conditions.{is_method_below}
use Rattle.rename_model.specs.NamesThere.{is_named_in_method}
use Rattle.class_table.specs.declared.record.Place.{Place}
use Rattle.class_table.specs.Slots.{Slots}
use Rattle.class_table.specs.View.{number_image}
use Rattle.reference_index.specs.Mentioned.{Mentioned, IsIndexOf, ListsPlaces}
use Rattle.code_questions.specs.declared.question.Way.TheVariants as way
use Rattle.code_questions.specs.declared.question.Whose.TheVariants as whose
use Rattle.code_questions.proofs.AtPlaces.{listed-any}
use Rattle.code_questions.proofs.Mentioning.{found-method}
use Rattle.hierarchy_questions.specs.declared.arrival.Arrival.{Arrival}
use Rattle.hierarchy_questions.specs.Arrivals.{is_named_beside, is_place_named}

-- a test that never passes
pub never : {X : Type 0} (xs : List X) → list_any (λ x. false) xs ≡ false
never [] = refl
never (x ∷ xs) = never xs

-- the first of two tests of which the second does not pass
pub or-false : (b : Bool) → (b || false) ≡ b
or-false true = refl
or-false false = refl

-- code that is looked at and names the variable mentions it, so it is listed
pub listed-named : (s : Slots) (a : Arrival) (x : Mentioned) (places : List Place) → IsIndexOf s x → ListsPlaces x a.variable places
    → list_any (is_place_named s a) places ≡ list_any (is_named_beside (number_image s) a) (number_image s).methods
listed-named s a x places index lists =
    listed-any (is_named_beside (number_image s) a) (λ (d : DoItOf ℕ). false) s a.variable
    (λ m e. found-method (number_image s) (record { whose = whose.Everyone; what = way.Named; name = a.variable }) m (named m e))
    (λ d e. absurd (true≢false (sym e))) x places index lists
    ∙ ap (λ (b : Bool). list_any (is_named_beside (number_image s) a) (number_image s).methods || b) (never (number_image s).doits)
    ∙ or-false (list_any (is_named_beside (number_image s) a) (number_image s).methods)
  where
    named : (m : EntryOf ℕ) → is_named_beside (number_image s) a m ≡ true → is_named_in_method nat_eq a.variable m ≡ true
    named m e =
        (and_parts (not (list_any (λ d. is_method_below nat_eq (number_image s).classes d m) a.excepted.now)) (is_named_in_method nat_eq a.variable m)
        (and_parts (is_method_below nat_eq (number_image s).classes a.class m) (not (list_any (λ d. is_method_below nat_eq (number_image s).classes d m) a.excepted.now) && is_named_in_method nat_eq a.variable m) e).1).1
