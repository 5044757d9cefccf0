-- The conditions on the methods of a selector, slot by slot and in the image.
use Rattle.std.proofs.Common.{◌≡◌, ℕ, zero, suc, ◌≤◌, ◌&&◌, ◌||◌, not, Bool, true, false, cond, List, [], ◌∷◌, ◌++◌, map, length, drop, Option, None, Some, option_map, slice_get, arith, refl, sym, ap, ◌∙◌}
use Rattle.std.specs.Prelude.{nat_eq, filter}
use Rattle.std.specs.List.{AllByRecursion, filter_map, cons_option}
use Rattle.std.specs.Option.{option_and_then}
use Rattle.std.proofs.lemmas.List.{append-nil}
use Rattle.image_model.specs.Image.{EntryOf, ImageOf}
use Rattle.class_table.specs.declared.record.ClassRec.{ClassRec}
use Rattle.class_table.specs.declared.record.MethodRec.{MethodRec}
use Rattle.class_table.specs.Slots.{Slots}
use Rattle.class_table.specs.Valid.{IsLive, IsOrderly}
use Rattle.class_table.specs.View.{class_name, entry_of, live_at, live, number_image}
use Rattle.class_table.proofs.Live.{filter_map-same}
use Rattle.class_questions.proofs.AnyLive.{live_at-live}
use Rattle.command_model.specs.Asked.{AskedOf}
use Rattle.command_model.specs.CodeNeeds.{in_no_implementor}
use Rattle.command_model.specs.Conditions.{ConditionOf, NotIn}
use Rattle.commands.specs.Views.{asked_by}
use Rattle.conditions.specs.Unnamed.{unnamed, unnamed_at}

-- nothing is left behind the last slot
drop-none : (xs : List ℕ) (i : ℕ) → length xs ≤ i → drop i xs ≡ []
drop-none [] zero h = refl
drop-none [] (suc i) h = refl
drop-none (x ∷ xs) zero h = absurd (omega arith)
drop-none (x ∷ xs) (suc i) h = drop-none xs i (omega arith)

pub last-unnamed : (f : ℕ → Option (ConditionOf ℕ)) (slots order : List ℕ) (i : ℕ) (after before target : List (ConditionOf ℕ)) → length slots ≤ i → after ++ filter_map f (drop i slots) ≡ before ++ filter_map f slots
    → slots ≡ order → filter_map f order ≡ target → after ≡ before ++ target
last-unnamed f slots order i after before target h e same is =
    sym (append-nil after)
    ∙ ap (λ (xs : List ℕ). after ++ filter_map f xs) (sym (drop-none slots i h))
    ∙ e
    ∙ ap (λ (xs : List ℕ). before ++ filter_map f xs) same
    ∙ ap (λ (cs : List (ConditionOf ℕ)). before ++ cs) is

module _ (s : Slots) (selector name : ℕ) where
  -- the condition on a method, by the name of its class
  abbrev of_record : MethodRec → Option (ConditionOf ℕ)
  of_record m = cond (not m.kernel && nat_eq selector m.tree.selector) (option_map (λ c. NotIn c m.meta selector name) (class_name s.classes m.class)) None

  abbrev of_entry : EntryOf ℕ → Option (ConditionOf ℕ)
  of_entry m = option_map (λ c. NotIn c m.meta selector name) m.class

  abbrev is_asked : EntryOf ℕ → Bool
  is_asked m = not m.kernel && nat_eq selector m.tree.selector

  -- the class of a live method is live
  by-name : (orderly : IsOrderly s) (k : ℕ) (m : MethodRec) → IsLive s.method_order k → slice_get s.methods k ≡ Some m → unnamed s selector name m ≡ of_record m
  by-name orderly k m l q =
      by m.kernel (nat_eq selector m.tree.selector)
    where
      named : (o : Option ClassRec) → option_map (λ (c : ClassRec). NotIn c.name m.meta selector name) o ≡ option_map (λ c. NotIn c m.meta selector name) (option_map (λ (c : ClassRec). c.name) o)
      named None = refl
      named (Some c) = refl

      by : (a b : Bool) → cond (a || not b) None (option_map (λ (c : ClassRec). NotIn c.name m.meta selector name) (live_at s.classes s.class_order m.class))
          ≡ cond (not a && b) (option_map (λ c. NotIn c m.meta selector name) (class_name s.classes m.class)) None
      by true b = refl
      by false false = refl
      by false true =
          ap (option_map (λ (c : ClassRec). NotIn c.name m.meta selector name)) (live_at-live s.classes s.class_order m.class (orderly.method_classes_live k m l q)) ∙ named (slice_get s.classes m.class)

  by-slot : (orderly : IsOrderly s) (k : ℕ) → IsLive s.method_order k → unnamed_at s selector name k ≡ option_and_then of_record (slice_get s.methods k)
  by-slot orderly k l = ap (option_and_then (unnamed s selector name)) (live_at-live s.methods s.method_order k l) ∙ by (slice_get s.methods k) refl
    where
      by : (o : Option MethodRec) → slice_get s.methods k ≡ o → option_and_then (unnamed s selector name) o ≡ option_and_then of_record o
      by None q = refl
      by (Some m) q = by-name orderly k m l q

  in-image : (order : List ℕ) → filter_map (λ k. option_and_then of_record (slice_get s.methods k)) order ≡ filter_map of_entry (filter is_asked (map (entry_of s.classes) (live s.methods order)))
  in-image [] = refl
  in-image (k ∷ ks) = by (slice_get s.methods k) (in-image ks)
    where
      asked : (m : MethodRec) (b : Bool) → filter_map (λ j. option_and_then of_record (slice_get s.methods j)) ks ≡ filter_map of_entry (filter is_asked (map (entry_of s.classes) (live s.methods ks)))
          → cons_option (cond b (option_map (λ c. NotIn c m.meta selector name) (class_name s.classes m.class)) None) (filter_map (λ j. option_and_then of_record (slice_get s.methods j)) ks)
          ≡ filter_map of_entry (cond b (entry_of s.classes m ∷ filter is_asked (map (entry_of s.classes) (live s.methods ks))) (filter is_asked (map (entry_of s.classes) (live s.methods ks))))
      asked m true rest = ap (cons_option (option_map (λ c. NotIn c m.meta selector name) (class_name s.classes m.class))) rest
      asked m false rest = rest

      by : (o : Option MethodRec) → filter_map (λ j. option_and_then of_record (slice_get s.methods j)) ks ≡ filter_map of_entry (filter is_asked (map (entry_of s.classes) (live s.methods ks)))
          → cons_option (option_and_then of_record o) (filter_map (λ j. option_and_then of_record (slice_get s.methods j)) ks) ≡ filter_map of_entry (filter is_asked (map (entry_of s.classes) (cons_option o (live s.methods ks))))
      by None rest = rest
      by (Some m) rest = asked m (not m.kernel && nat_eq selector m.tree.selector) rest

  pub unnamed-there : IsOrderly s → filter_map (unnamed_at s selector name) s.method_order ≡ in_no_implementor (asked_by s.names) (number_image s) selector name
  unnamed-there orderly =
      filter_map-same (unnamed_at s selector name) (λ k. option_and_then of_record (slice_get s.methods k)) s.method_order (by-slot orderly) ∙ in-image s.method_order

-- a fact of each of these conditions
pub unnamed-each : (P : ConditionOf ℕ → Type 0) (a : AskedOf ℕ) (i : ImageOf ℕ) (selector name : ℕ) → ((c : ℕ) (meta : Bool) → P (NotIn c meta selector name)) → AllByRecursion P (in_no_implementor a i selector name)
unnamed-each P a i selector name h = each (filter (λ (m : EntryOf ℕ). not m.kernel && a.words.tests.same selector m.tree.selector) i.methods)
  where
    one : (meta : Bool) (o : Option ℕ) (cs : List (ConditionOf ℕ)) → AllByRecursion P cs → AllByRecursion P (cons_option (option_map (λ c. NotIn c meta selector name) o) cs)
    one meta None cs all = all
    one meta (Some c) cs all = (h c meta, all)

    each : (ms : List (EntryOf ℕ)) → AllByRecursion P (filter_map (λ (m : EntryOf ℕ). option_map (λ c. NotIn c m.meta selector name) m.class) ms)
    each [] = tt
    each (m ∷ ms) = one m.meta m.class (filter_map (λ (v : EntryOf ℕ). option_map (λ c. NotIn c v.meta selector name) v.class) ms) (each ms)
