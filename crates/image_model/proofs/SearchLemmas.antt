-- Where a look-up for `super` begins, and which of several variables a name stands for.
use Rattle.std.proofs.Common.{◌≡◌, Bool, true, cond, List, ◌∷◌, length, find, Option, Some, None, option_map, unwrap_or, refl, ap, ◌∙◌}
use Rattle.std.specs.List.{list_any}
use Rattle.std.specs.Option.{option_and_then, option_or}
use Rattle.image_model.specs.Image.{ClassOf, ImageOf}
use Rattle.image_model.specs.Words.{WordsOf}
use Rattle.image_model.specs.Upwards.{first_given}
use Rattle.image_model.specs.Chain.{class_named, superclass_of}
use Rattle.image_model.specs.Lookup.{own_method, as_object, lookup, super_lookup}
use Rattle.image_model.specs.Means.{VariableKind, of_class, variables, MeaningOf, variable, a_class, transcript, undeclared, definer, side_kind, means_along}
use Rattle.image_model.proofs.UpwardsLemmas.{upwards-none}

module _ {N : Type 0} (w : WordsOf N) (i : ImageOf N) where
  -- from the superclass of the class of a name
  pub super_lookup-above : (n : N) (c : ClassOf N) (meta : Bool) (s : N) → class_named w.tests.same i.classes n ≡ Some c → super_lookup w i (Some n) meta s ≡ lookup w i c.superclass meta s
  super_lookup-above n c meta s e = ap (λ o. lookup w i (option_and_then (λ (d : ClassOf N). d.superclass) o) meta s) e

  -- from no class
  lookup-none : (meta : Bool) (s : N) → lookup w i None meta s ≡ cond meta (as_object w i s) None
  lookup-none meta s = ap (λ cs. option_or (first_given (λ c. own_method w.tests.same i.methods c.name meta s) cs) (cond meta (as_object w i s) None)) (upwards-none (superclass_of w.tests.same i.classes) (length i.classes))

  -- above the root
  pub super_lookup-root : (n : N) (c : ClassOf N) (meta : Bool) (s : N) → class_named w.tests.same i.classes n ≡ Some c → c.superclass ≡ None → super_lookup w i (Some n) meta s ≡ cond meta (as_object w i s) None
  super_lookup-root n c meta s e root = super_lookup-above n c meta s e ∙ ap (λ o. lookup w i o meta s) root ∙ lookup-none meta s

module _ {N : Type 0} (w : WordsOf N) (classes above : List (ClassOf N)) (meta : Bool) (n : N) where
  -- what a name stands for, from the searches for it
  abbrev by : Option (ClassOf N) → Option (ClassOf N) → Option (ClassOf N) → MeaningOf N
  by side shared named =
      unwrap_or (option_or (option_map (λ (c : ClassOf N). variable (side_kind meta) c.name) side) (option_or (option_map (λ (c : ClassOf N). variable of_class c.name) shared) (option_or (option_map (λ (c : ClassOf N). a_class c.name) named) (cond (w.is_transcript n) (Some transcript) None)))) undeclared

  means_along-by : means_along w classes above meta n ≡ by (definer w.tests.same (side_kind meta) above n) (definer w.tests.same of_class above n) (class_named w.tests.same classes n)
  means_along-by = refl

  pub means_along-side : (c : ClassOf N) → definer w.tests.same (side_kind meta) above n ≡ Some c → means_along w classes above meta n ≡ variable (side_kind meta) c.name
  means_along-side c e = ap (λ o. by o (definer w.tests.same of_class above n) (class_named w.tests.same classes n)) e

  pub means_along-shared : (c : ClassOf N) → definer w.tests.same (side_kind meta) above n ≡ None → definer w.tests.same of_class above n ≡ Some c → means_along w classes above meta n ≡ variable of_class c.name
  means_along-shared c e h = λ j. by (e j) (h j) (class_named w.tests.same classes n)

  pub means_along-class : (c : ClassOf N) → definer w.tests.same (side_kind meta) above n ≡ None → definer w.tests.same of_class above n ≡ None → class_named w.tests.same classes n ≡ Some c → means_along w classes above meta n ≡ a_class c.name
  means_along-class c e h k = λ j. by (e j) (h j) (k j)

-- the nearest class that defines a variable
pub definer-first : {N : Type 0} (same : N → N → Bool) (kind : VariableKind) (c : ClassOf N) (above : List (ClassOf N)) (n : N) → list_any (same n) (variables kind c) ≡ true → definer same kind (c ∷ above) n ≡ Some c
definer-first same kind c above n e = ap (λ b. cond b (Some c) (find (λ d. list_any (same n) (variables kind d)) above)) e
