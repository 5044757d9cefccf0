-- Tables of names that grow change nothing that was read.
use Rattle.std.proofs.Common.{◌≡◌, ℕ, zero, suc, ◌<◌, List, [], ◌∷◌, ◌++◌, length, map, Option, Some, None, slice_get, unwrap_or, Result, Ok, Err, refl, sym, ap, subst, ◌∙◌, arith, length-append}
use Rattle.std.specs.List.{AllByRecursion}
use Rattle.std.specs.Option.{option_map, ForSome}
use Rattle.std.specs.Prelude.{OnOk, OnErr}
use Rattle.std.proofs.lemmas.List.Quantifiers.{position-Some}
use Rattle.rb_base.specs.Names.{text_eq, name_at, number_in, interned}
use Rattle.tree_model.specs.Tree.{SequenceOf, map_sequence}
use Rattle.tree_model.specs.AllNames.{SequenceNames}
use Rattle.tree_model.proofs.AllNamesLemmas.{map_sequence-same, SequenceNames-implies}
use Rattle.event_trees.specs.Naming.{Grows}
use Rattle.event_trees.proofs.Known.{Grows-none, Grows-Adds, Adds-number, text_of_number}
use Rattle.image_model.specs.Image.{ImageOf, map_image}
use Rattle.image_model.specs.ImageNames.{ImageNames, OptionNames}
use Rattle.image_model.proofs.MapImage.{map_image-same, ImageNames-implies}
use Rattle.file_model.specs.Changes.{RunOf, map_run}
use Rattle.file_model.specs.Places.{ClassPlaceOf, MethodPlaceOf, PlacesOf, map_places}
use Rattle.file_model.specs.Filing.{Text}
use Rattle.file_numbers.specs.PlacesNames.{MethodPlaceNames, PlacesNames}
use Rattle.placed_draft.specs.Placed.{image_of, places_of}
use Rattle.file_reading.specs.declared.reading.Progress.{Progress}
use Rattle.file_reading.specs.Filed.{filed, run_in, is_at_head, IsNumberIn, IsSoundSoFar}

-- a list keeps what stands in it where more is put behind it
slice_get-front : (xs ys : List Text) (n : ℕ) → n < length xs → slice_get (xs ++ ys) n ≡ slice_get xs n
slice_get-front [] ys n h = absurd (omega arith)
slice_get-front (x ∷ xs) ys zero h = refl
slice_get-front (x ∷ xs) ys (suc n) h = slice_get-front xs ys n (omega arith)

-- the place of a class, and that of a method, over other names
abbrev named_class_place : (ℕ → Text) → ClassPlaceOf ℕ → ClassPlaceOf Text
named_class_place f p = record { class = f p.class; place = p.place }

abbrev named_method_place : (ℕ → Text) → MethodPlaceOf ℕ → MethodPlaceOf Text
named_method_place f p = record { class = f p.class; meta = p.meta; selector = f p.selector; place = p.place }

module _ {names later : List Text} (g : Grows names later) where
  -- a number that has a text keeps it
  pub name_at-grown : (n : ℕ) → IsNumberIn names n → name_at later n ≡ name_at names n
  name_at-grown n h = ap (λ o. unwrap_or o []) (ap (λ (ts : List Text). slice_get ts n) g.grown ∙ slice_get-front names g.more n h)

  pub number-grown : (n : ℕ) → IsNumberIn names n → IsNumberIn later n
  number-grown n h = omega (arith, h, ap length g.grown, length-append names g.more)

  -- in a list
  pub names-grown : (ns : List ℕ) → AllByRecursion (IsNumberIn names) ns → map (name_at later) ns ≡ map (name_at names) ns
  names-grown [] h = refl
  names-grown (n ∷ ns) h = λ i. name_at-grown n h.0 i ∷ names-grown ns h.1 i

  pub numbers-grown : (ns : List ℕ) → AllByRecursion (IsNumberIn names) ns → AllByRecursion (IsNumberIn later) ns
  numbers-grown [] h = tt
  numbers-grown (n ∷ ns) h = (number-grown n h.0, numbers-grown ns h.1)

  -- where there may be one
  pub option-grown : (o : Option ℕ) → OptionNames (IsNumberIn names) o → option_map (name_at later) o ≡ option_map (name_at names) o
  option-grown None h = refl
  option-grown (Some n) h = ap Some (name_at-grown n h)

  pub option_number-grown : (o : Option ℕ) → OptionNames (IsNumberIn names) o → OptionNames (IsNumberIn later) o
  option_number-grown None h = tt
  option_number-grown (Some n) h = number-grown n h

  -- in a do-it
  pub sequence-grown : (b : SequenceOf ℕ) → SequenceNames (IsNumberIn names) b → map_sequence (name_at later) b ≡ map_sequence (name_at names) b
  sequence-grown b h = map_sequence-same (name_at later) (name_at names) b (SequenceNames-implies (IsNumberIn names) (λ n. name_at later n ≡ name_at names n) name_at-grown b h)

  pub sequence_numbers-grown : (b : SequenceOf ℕ) → SequenceNames (IsNumberIn names) b → SequenceNames (IsNumberIn later) b
  sequence_numbers-grown b h = SequenceNames-implies (IsNumberIn names) (IsNumberIn later) number-grown b h

  -- in an image
  pub image-grown : (i : ImageOf ℕ) → ImageNames (IsNumberIn names) i → map_image (name_at later) i ≡ map_image (name_at names) i
  image-grown i h = map_image-same (name_at later) (name_at names) i (ImageNames-implies (IsNumberIn names) (λ n. name_at later n ≡ name_at names n) name_at-grown i h)

  -- in a run
  run-grown : (o : Option (RunOf ℕ)) → ForSome o (λ r. IsNumberIn names r.class) → option_map (map_run (name_at later)) o ≡ option_map (map_run (name_at names)) o
  run-grown None h = refl
  run-grown (Some r) h = ap (λ (t : Text). Some (record { class = t; meta = r.meta; protocol = r.protocol })) (name_at-grown r.class (h r refl))

  -- in places that are stated
  class_places-grown : (ps : List (ClassPlaceOf ℕ)) → AllByRecursion (λ (p : ClassPlaceOf ℕ). IsNumberIn names p.class) ps
      → map (named_class_place (name_at later)) ps ≡ map (named_class_place (name_at names)) ps
  class_places-grown [] h = refl
  class_places-grown (p ∷ ps) h = λ i. record { class = name_at-grown p.class h.0 i; place = p.place } ∷ class_places-grown ps h.1 i

  method_places-grown : (ps : List (MethodPlaceOf ℕ)) → AllByRecursion (MethodPlaceNames (IsNumberIn names)) ps
      → map (named_method_place (name_at later)) ps ≡ map (named_method_place (name_at names)) ps
  method_places-grown [] h = refl
  method_places-grown (p ∷ ps) h = λ i. record {
    class = name_at-grown p.class h.0.0 i;
    meta = p.meta;
    selector = name_at-grown p.selector h.0.1 i;
    place = p.place;
  } ∷ method_places-grown ps h.1 i

  places-grown : (ps : PlacesOf ℕ) → PlacesNames (IsNumberIn names) ps → map_places (name_at later) ps ≡ map_places (name_at names) ps
  places-grown ps h = λ i. record { classes = class_places-grown ps.classes h.classes i; methods = method_places-grown ps.methods h.methods i; next = ps.next }

  class_place_numbers-grown : (ps : List (ClassPlaceOf ℕ)) → AllByRecursion (λ (p : ClassPlaceOf ℕ). IsNumberIn names p.class) ps → AllByRecursion (λ (p : ClassPlaceOf ℕ). IsNumberIn later p.class) ps
  class_place_numbers-grown [] h = tt
  class_place_numbers-grown (p ∷ ps) h = (number-grown p.class h.0, class_place_numbers-grown ps h.1)

  method_place_numbers-grown : (ps : List (MethodPlaceOf ℕ)) → AllByRecursion (MethodPlaceNames (IsNumberIn names)) ps → AllByRecursion (MethodPlaceNames (IsNumberIn later)) ps
  method_place_numbers-grown [] h = tt
  method_place_numbers-grown (p ∷ ps) h = ((number-grown p.class h.0.0, number-grown p.selector h.0.1), method_place_numbers-grown ps h.1)

  place_numbers-grown : (ps : PlacesOf ℕ) → PlacesNames (IsNumberIn names) ps → PlacesNames (IsNumberIn later) ps
  place_numbers-grown ps h = record { classes = class_place_numbers-grown ps.classes h.classes; methods = method_place_numbers-grown ps.methods h.methods }

-- what was read is the same, and still sound
module _ (p : Progress) (later : List Text) (g : Grows p.names later) (sound : IsSoundSoFar p) where
  pub filed-grown : filed (record p { names = later }) ≡ filed p
  filed-grown = λ i. record {
    image = image-grown g (image_of p.draft.value) sound.image i;
    run = run-grown g (run_in p.draft.value) sound.run i;
    at_head = is_at_head p.draft.value;
    places = places-grown g (places_of p.draft.value) sound.places i;
  }

  pub IsSoundSoFar-grown : IsSoundSoFar (record p { names = later })
  IsSoundSoFar-grown = record {
    whole = sound.whole;
    image = ImageNames-implies (IsNumberIn p.names) (IsNumberIn later) (number-grown g) (image_of p.draft.value) sound.image;
    run = λ run e. number-grown g run.class (sound.run run e);
    places = place_numbers-grown g (places_of p.draft.value) sound.places;
  }

-- a text that was put into a table
pub interned-grows : (names later : List Text) (t : Text) → later ≡ interned names t → Grows names later
interned-grows names later t e = Grows-Adds (Adds-number names later t t e refl)

pub interned-text : (names : List Text) (t : Text) (n : ℕ) → Some n ≡ number_in names t → name_at names n ≡ t
interned-text names t n e = ap (λ o. unwrap_or o []) (text_of_number names t n e)

pub interned-known : (names : List Text) (t : Text) (n : ℕ) → Some n ≡ number_in names t → IsNumberIn names n
interned-known names t n e = (position-Some (text_eq t) names n [] (sym e)).0

-- the table after a text was put into it, or could not be
pub either-grows : {E : Type 0} (r : Result ℕ E) (names later : List Text) (t : Text) → OnOk r (later ≡ interned names t) → OnErr r (later ≡ names) → Grows names later
either-grows (Ok n) names later t ok err = interned-grows names later t ok
either-grows (Err e) names later t ok err = subst (Grows names) (sym err) (Grows-none names)
