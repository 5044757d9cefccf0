-- Whether a class itself has a method is asked of the places that are listed under the selector.
use Rattle.std.proofs.Common.{◌≡◌, ℕ, ◌&&◌, ◌||◌, not, Bool, true, false, cond, find, List, [], ◌∷◌, Option, None, Some, option_map, is_none, is_some, slice_get, refl, sym, ap, ◌∙◌}
use Rattle.std.specs.Prelude.{Contains, nat_eq}
use Rattle.std.specs.Bool.{beq}
use Rattle.std.specs.List.{list_any}
use Rattle.std.specs.Option.{option_and_then, option_map_or}
use Rattle.std.proofs.lemmas.Bool.{and_parts}
use Rattle.image_model.specs.Image.{EntryOf, DoItOf}
use Rattle.image_model.specs.Lookup.{is_method, own_method}
use Rattle.mentions.specs.Mentions.{method_names}
use Rattle.mentions.proofs.Lists.{Contains-first}
use Rattle.class_table.specs.declared.record.ClassRec.{ClassRec}
use Rattle.class_table.specs.declared.record.MethodRec.{MethodRec}
use Rattle.class_table.specs.declared.record.DoIt.{DoIt}
use Rattle.class_table.specs.declared.record.Place.{Place}
use Rattle.class_table.specs.declared.record.Place.TheVariants as place
use Rattle.class_table.specs.Slots.{Slots}
use Rattle.class_table.specs.View.{class_of, class_at, entry_of, live_at, number_image}
use Rattle.class_table.specs.Valid.{IsOrderly}
use Rattle.class_table.specs.Finding.{is_named, named_in}
use Rattle.class_table.proofs.Live.{eqb-equal}
use Rattle.class_table.proofs.Found.{class_named-named_in}
use Rattle.reference_index.specs.Mentioned.{Mentioned, IsIndexOf, ListsPlaces}
use Rattle.command_model.specs.Hierarchy.{is_class}
use Rattle.command_model.specs.MethodConditions.{lacks_method}
use Rattle.class_questions.proofs.AnyLive.{live-live_at}
use Rattle.class_questions.proofs.ChainLaws.{named-slot}
use Rattle.code_questions.specs.Places.{passes_at}
use Rattle.code_questions.proofs.AtPlaces.{listed-any}
use Rattle.hierarchy_questions.specs.OwnMethods.{is_own_at}
use Rattle.hierarchy_questions.proofs.OwnMethods.{class-agrees}
use Rattle.hierarchy_questions.proofs.Listed.{never, or-false}

-- nothing is found exactly where nothing passes
none-found : {X : Type 0} (p : X → Bool) (xs : List X) → is_none (find p xs) ≡ not (list_any p xs)
none-found p [] = refl
none-found p (x ∷ xs) = by (p x) (none-found p xs)
  where
    by : (b : Bool) → is_none (find p xs) ≡ not (list_any p xs) → is_none (cond b (Some x) (find p xs)) ≡ not (b || list_any p xs)
    by true rest = refl
    by false rest = rest

-- there is a class of the name exactly where a slot is found for it
pub class-found : (s : Slots) (c : ℕ) → is_class nat_eq (number_image s) c ≡ is_some (named_in s.classes s.class_order c)
class-found s c = ap is_some (class_named-named_in s c) ∙ by (named_in s.classes s.class_order c) refl
  where
    read : (o : Option ClassRec) → option_map (λ (r : ClassRec). r.name) o ≡ Some c → is_some (option_map (class_of s.classes) o) ≡ true
    read None e = absurd (cc)
    read (Some r) e = refl

    by : (o : Option ℕ) → named_in s.classes s.class_order c ≡ o → is_some (option_and_then (class_at s) o) ≡ is_some o
    by None e = refl
    by (Some k) e = read (slice_get s.classes k) (named-slot s.classes s.class_order c k e).1

module _ (s : Slots) (orderly : IsOrderly s) (c : ℕ) (meta : Bool) (selector : ℕ) where
  -- whether code is the method
  abbrev at-place : Place → Bool
  at-place = passes_at (is_method nat_eq c meta selector) (λ (d : DoItOf ℕ). false) s

  -- a place has a method of the class in the slot of the name exactly where it has one of the class of the name
  place-agrees : (k : ℕ) → named_in s.classes s.class_order c ≡ Some k → (p : Place) → is_own_at s k meta selector p ≡ at-place p
  place-agrees k named (place.DoIt n) = by (slice_get s.doits n)
    where
      by : (o : Option DoIt) → false ≡ option_map_or (λ (d : DoIt). false) o false
      by None = refl
      by (Some d) = refl
  place-agrees k named (place.Method j) = by (live_at s.methods s.method_order j) refl
    where
      by : (o : Option MethodRec) → live_at s.methods s.method_order j ≡ o
          → option_map_or (λ (m : MethodRec). nat_eq k m.class && beq meta m.meta && nat_eq selector m.tree.selector) o false ≡ option_map_or (λ (m : MethodRec). is_method nat_eq c meta selector (entry_of s.classes m)) o false
      by None e = refl
      by (Some m) e =
          let l = live-live_at s.methods s.method_order j m e in
          let same : is_named s.classes c m.class ≡ nat_eq k m.class =
          class-agrees s orderly c meta selector m.class (orderly.method_classes_live j m l.0 l.1) ∙ ap (λ (o : Option ℕ). option_map_or (λ i. nat_eq i m.class) o false) named in
          λ n. sym same n && beq meta m.meta && nat_eq selector m.tree.selector

  -- the method mentions its selector
  mentions-own : (m : EntryOf ℕ) → is_method nat_eq c meta selector m ≡ true → Contains (method_names m.tree) selector
  mentions-own m e =
      Contains-first m.tree.selector selector _ (sym (eqb-equal selector m.tree.selector (and_parts (option_map_or (nat_eq c) m.class false && beq meta m.meta) (nat_eq selector m.tree.selector) e).1))

  -- so it is enough to ask the places that are listed under that
  listed-own : (x : Mentioned) (places : List Place) → IsIndexOf s x → ListsPlaces x selector places → list_any at-place places ≡ list_any (is_method nat_eq c meta selector) (number_image s).methods
  listed-own x places index lists =
      listed-any (is_method nat_eq c meta selector) (λ (d : DoItOf ℕ). false) s selector mentions-own (λ d e. absurd (cc)) x places index lists
      ∙ ap (λ (b : Bool). list_any (is_method nat_eq c meta selector) (number_image s).methods || b) (never (number_image s).doits)
      ∙ or-false (list_any (is_method nat_eq c meta selector) (number_image s).methods)

  -- where no slot is found for the name there is no class
  pub lacks-unnamed : named_in s.classes s.class_order c ≡ None → false ≡ lacks_method nat_eq (number_image s) c meta selector
  lacks-unnamed named =
      let there : false ≡ is_class nat_eq (number_image s) c = sym (class-found s c ∙ ap is_some named) in
      λ n. there n && is_none (own_method nat_eq (number_image s).methods c meta selector)

  -- the class lacks the method exactly where no listed place has it
  pub lacks-listed : (k : ℕ) (x : Mentioned) (places : List Place) → named_in s.classes s.class_order c ≡ Some k → IsIndexOf s x → ListsPlaces x selector places
      → not (list_any (is_own_at s k meta selector) places) ≡ lacks_method nat_eq (number_image s) c meta selector
  lacks-listed k x places named index lists =
      let there : true ≡ is_class nat_eq (number_image s) c = sym (class-found s c ∙ ap is_some named) in
      let none = (λ n. not (list_any (λ p. place-agrees k named p n) places)) ∙ ap not (listed-own x places index lists) ∙ sym (none-found (is_method nat_eq c meta selector) (number_image s).methods) in
      λ n. there n && none n
