-- Places that are stated, and what is settled by them, are the same where names are changed one to one.
use Rattle.std.proofs.Common.{◌≡◌, ℕ, suc, Bool, not, List, map, find, Option, Some, None, option_map, refl, ap, ◌∙◌}
use Rattle.std.specs.Prelude.{◌&&◌}
use Rattle.std.specs.Bool.{beq}
use Rattle.std.specs.List.{AllByRecursion}
use Rattle.std.specs.Option.{option_map_or}
use Rattle.image_model.specs.Image.{ClassOf, EntryOf, ImageOf, map_class, map_entry, map_image}
use Rattle.image_model.specs.ImageNames.{ClassNames, EntryNames, ImageNames}
use Rattle.image_model.specs.Words.{WordsOf, KeepsWords}
use Rattle.image_model.specs.Lookup.{is_method}
use Rattle.image_model.proofs.Lists.{all-implies, find-map}
use Rattle.file_model.specs.Changes.{ChangeOf, Define, DefineAt, Comment, SetClassSide, RemoveMethod, RemoveClass, map_change}
use Rattle.file_model.specs.Hierarchy.{settled}
use Rattle.file_model.specs.Places.{ClassPlaceOf, MethodPlaceOf, PlacesOf, class_place, method_place, with_method_place, opened_at, places_behind, is_place_of, places_after, put_again_behind, placed, map_places}
use Rattle.file_numbers.specs.ChangeNames.{ChangeNames}
use Rattle.file_numbers.specs.PlacesNames.{MethodPlaceNames, PlacesNames}
use Rattle.file_numbers.proofs.Mapped.{filter-map, all-filter}
use Rattle.file_numbers.proofs.Classes.{settled-map, settled-names}
use Rattle.file_numbers.proofs.Changed.{is_method-map}
use Rattle.file_numbers.proofs.Again.{put_again_behind-map, all-put_again_behind}

-- the place of a class, mapped
abbrev map_class_place : {M N : Type 0} → (M → N) → ClassPlaceOf M → ClassPlaceOf N
map_class_place f p = record { class = f p.class; place = p.place }

-- the place of a method, mapped
abbrev map_method_place : {M N : Type 0} → (M → N) → MethodPlaceOf M → MethodPlaceOf N
map_method_place f p = record { class = f p.class; meta = p.meta; selector = f p.selector; place = p.place }

-- places behind a method of a run
pub places_behind-map : {M N : Type 0} (f : M → N) (c : M) (meta : Bool) (s : M) (p : PlacesOf M) → places_behind (f c) meta (f s) (map_places f p) ≡ map_places f (places_behind c meta s p)
places_behind-map {M} {N} f c meta s p = by p.next
  where
    by : (o : Option ℕ)
        → option_map_or (λ (k : ℕ). opened_at (Some (suc k)) (with_method_place (f c) meta (f s) k (map_places f p))) o (map_places f p) ≡ map_places f (option_map_or (λ (k : ℕ). opened_at (Some (suc k)) (with_method_place c meta s k p)) o p)
    by None = refl
    by (Some k) = refl

-- a fact of each name in them
pub places_behind-names : {N : Type 0} (P : N → Type 0) (c : N) (meta : Bool) (s : N) (p : PlacesOf N) → PlacesNames P p → P c → P s → PlacesNames P (places_behind c meta s p)
places_behind-names P c meta s p a q r = by p.next
  where
    by : (o : Option ℕ) → PlacesNames P (option_map_or (λ (k : ℕ). opened_at (Some (suc k)) (with_method_place c meta s k p)) o p)
    by None = a
    by (Some k) = record { classes = a.classes; methods = ((q, r), a.methods) }

module _ {M N : Type 0} (P : M → Type 0) (f : M → N) (w : WordsOf M) (v : WordsOf N) (keeps : KeepsWords P f w v) where
  -- whether a place is that of a method
  is_place_of-map : (c : M) (meta : Bool) (s : M) (p : MethodPlaceOf M) → P c → P s → MethodPlaceNames P p → is_place_of v.tests.same (f c) meta (f s) (map_method_place f p) ≡ is_place_of w.tests.same c meta s p
  is_place_of-map c meta s p q r a = λ i. keeps.tests.same c p.class q a.0 i && (beq meta p.meta && keeps.tests.same s p.selector r a.1 i)

  -- the places after a change
  pub places_after-map : (c : ChangeOf M) (p : PlacesOf M) → PlacesNames P p → ChangeNames P c → places_after v.tests.same (map_change f c) (map_places f p) ≡ map_places f (places_after w.tests.same c p)
  places_after-map (Define d) p a q = refl
  places_after-map (DefineAt d k) p a q = refl
  places_after-map (Comment n text) p a q = refl
  places_after-map (SetClassSide n names) p a q = refl
  places_after-map (RemoveMethod c meta s) p a q = λ j. record (map_places f p) {
    methods = filter-map (map_method_place f) (λ (t : MethodPlaceOf M). not (is_place_of w.tests.same c meta s t)) (λ (t : MethodPlaceOf N). not (is_place_of v.tests.same (f c) meta (f s) t)) p.methods
        (all-implies _ _ (λ t r. ap not (is_place_of-map c meta s t q.0 q.1 r)) p.methods a.methods) j;
  }
  places_after-map (RemoveClass n) p a q = λ j. record (map_places f p) {
    classes = filter-map (map_class_place f) (λ (t : ClassPlaceOf M). not (w.tests.same n t.class)) (λ (t : ClassPlaceOf N). not (v.tests.same (f n) t.class)) p.classes
        (all-implies _ _ (λ t r. ap not (keeps.tests.same n t.class q r)) p.classes a.classes) j;
    methods = filter-map (map_method_place f) (λ (t : MethodPlaceOf M). not (w.tests.same n t.class)) (λ (t : MethodPlaceOf N). not (v.tests.same (f n) t.class)) p.methods
        (all-implies _ _ (λ t r. ap not (keeps.tests.same n t.class q r.0)) p.methods a.methods) j;
  }

  -- a fact of each name in them
  pub places_after-names : (c : ChangeOf M) (p : PlacesOf M) → PlacesNames P p → ChangeNames P c → PlacesNames P (places_after w.tests.same c p)
  places_after-names (Define d) p a q = a
  places_after-names (DefineAt d k) p a q = record { classes = (q.name, a.classes); methods = a.methods }
  places_after-names (Comment n text) p a q = a
  places_after-names (SetClassSide n names) p a q = a
  places_after-names (RemoveMethod c meta s) p a q = record {
    classes = a.classes;
    methods = all-filter (MethodPlaceNames P) (λ (t : MethodPlaceOf M). not (is_place_of w.tests.same c meta s t)) p.methods a.methods;
  }
  places_after-names (RemoveClass n) p a q = record {
    classes = all-filter (λ (t : ClassPlaceOf M). P t.class) (λ (t : ClassPlaceOf M). not (w.tests.same n t.class)) p.classes a.classes;
    methods = all-filter (MethodPlaceNames P) (λ (t : MethodPlaceOf M). not (w.tests.same n t.class)) p.methods a.methods;
  }

  -- the place of a class
  class_place-map : (places : List (ClassPlaceOf M)) (c : ClassOf M) → AllByRecursion (λ (t : ClassPlaceOf M). P t.class) places → ClassNames P c
      → class_place v.tests.same (map (map_class_place f) places) (map_class f c) ≡ class_place w.tests.same places c
  class_place-map places c a r =
      ap (option_map (λ (t : ClassPlaceOf N). t.place)) (find-map (map_class_place f) (λ (t : ClassPlaceOf M). w.tests.same t.class c.name) (λ (t : ClassPlaceOf N). v.tests.same t.class (f c.name)) places
      (all-implies _ _ (λ t u. keeps.tests.same t.class c.name u r.name) places a))
      ∙ by (find (λ (t : ClassPlaceOf M). w.tests.same t.class c.name) places)
    where
      by : (o : Option (ClassPlaceOf M)) → option_map (λ (t : ClassPlaceOf N). t.place) (option_map (map_class_place f) o) ≡ option_map (λ (t : ClassPlaceOf M). t.place) o
      by None = refl
      by (Some t) = refl

  -- the place of a method
  method_place-map : (places : List (MethodPlaceOf M)) (m : EntryOf M) → AllByRecursion (MethodPlaceNames P) places → EntryNames P m
      → method_place v.tests.same (map (map_method_place f) places) (map_entry f m) ≡ method_place w.tests.same places m
  method_place-map places m a r =
      ap (option_map (λ (t : MethodPlaceOf N). t.place)) (find-map (map_method_place f) (λ (t : MethodPlaceOf M). is_method w.tests.same t.class t.meta t.selector m) (λ (t : MethodPlaceOf N). is_method v.tests.same t.class t.meta t.selector (map_entry f m)) places
      (all-implies _ _ (λ t u. is_method-map P f w v keeps t.class t.meta t.selector m u.0 u.1 r) places a))
      ∙ by (find (λ (t : MethodPlaceOf M). is_method w.tests.same t.class t.meta t.selector m) places)
    where
      by : (o : Option (MethodPlaceOf M)) → option_map (λ (t : MethodPlaceOf N). t.place) (option_map (map_method_place f) o) ≡ option_map (λ (t : MethodPlaceOf M). t.place) o
      by None = refl
      by (Some t) = refl

  -- classes that are put in again at their places
  classes_again-names : (place : ClassOf M → Option ℕ) (classes : List (ClassOf M)) → AllByRecursion (ClassNames P) classes → AllByRecursion (ClassNames P) (put_again_behind (λ (c : ClassOf M). c.kernel) place classes)
  classes_again-names place classes p = all-put_again_behind (ClassNames P) (λ (c : ClassOf M). c.kernel) place classes p

  -- an image whose places are settled
  pub placed-map_image : (p : PlacesOf M) (i : ImageOf M) → PlacesNames P p → ImageNames P i → placed v.tests.same (map_places f p) (map_image f i) ≡ map_image f (placed w.tests.same p i)
  placed-map_image p i a b = λ j. record (map_image f i) {
    classes = (ap (settled v.tests.same) (put_again_behind-map (map_class f) (class_place w.tests.same p.classes) (class_place v.tests.same (map (map_class_place f) p.classes)) (λ (c : ClassOf M). c.kernel) (λ (c : ClassOf N). c.kernel) i.classes (λ c. refl)
        (all-implies _ _ (λ c r. class_place-map p.classes c a.classes r) i.classes b.classes))
        ∙ settled-map P f w v keeps (put_again_behind (λ (c : ClassOf M). c.kernel) (class_place w.tests.same p.classes) i.classes) (classes_again-names (class_place w.tests.same p.classes) i.classes b.classes)) j;
    methods = put_again_behind-map (map_entry f) (method_place w.tests.same p.methods) (method_place v.tests.same (map (map_method_place f) p.methods)) (λ (m : EntryOf M). m.kernel) (λ (m : EntryOf N). m.kernel) i.methods (λ m. refl)
        (all-implies _ _ (λ m r. method_place-map p.methods m a.methods r) i.methods b.methods) j;
  }

  -- a fact of each name in it
  pub placed-names : (p : PlacesOf M) (i : ImageOf M) → ImageNames P i → ImageNames P (placed w.tests.same p i)
  placed-names p i b = record {
    classes = settled-names P f w v keeps (put_again_behind (λ (c : ClassOf M). c.kernel) (class_place w.tests.same p.classes) i.classes) (classes_again-names (class_place w.tests.same p.classes) i.classes b.classes);
    methods = all-put_again_behind (EntryNames P) (λ (m : EntryOf M). m.kernel) (method_place w.tests.same p.methods) i.methods b.methods;
    doits = b.doits;
  }
