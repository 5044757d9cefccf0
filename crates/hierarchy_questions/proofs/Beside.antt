-- The classes and methods that are looked at where a variable comes into a class.
use Rattle.std.proofs.Common.{◌≡◌, ℕ, ◌&&◌, not, Bool, true, false, List, Option, None, Some, slice_get, refl, sym, ap, ◌∙◌}
use Rattle.std.specs.Prelude.{nat_eq}
use Rattle.std.specs.List.{list_any}
use Rattle.std.specs.Option.{option_map, option_map_or}
use Rattle.image_model.specs.Image.{ClassOf}
use Rattle.class_chains.specs.Chains.{is_on_chain}
use Rattle.st_tree.specs.declared.tree.Method.{Method}
use Rattle.st_tree.specs.View.{method_of}
use Rattle.rename_model.specs.Conditions.{defines, stands_below}
use Rattle.class_table.specs.declared.record.ClassRec.{ClassRec}
use Rattle.class_table.specs.declared.record.MethodRec.{MethodRec}
use Rattle.class_table.specs.declared.record.MethodInfo.{MethodInfo}
use Rattle.class_table.specs.Info.{IsInfoOf}
use Rattle.class_table.specs.Slots.{Slots}
use Rattle.class_table.specs.View.{class_name, class_of, entry_of, live_at, number_image}
use Rattle.class_table.specs.Valid.{IsLive, IsOrderly}
use Rattle.class_questions.specs.LiveClasses.{is_live_that}
use Rattle.class_questions.proofs.AnyLive.{live-live_at}
use Rattle.class_questions.proofs.ChainLaws.{chain-class}
use Rattle.hierarchy_questions.specs.declared.arrival.Arrival.{Arrival}
use Rattle.hierarchy_questions.specs.Arrivals.{is_beside, is_defined_beside, is_in_tree, is_named_beside}

-- tests in a row, in another order
regrouped : (p n d : Bool) → (p && (n && d)) ≡ (d && (p && n))
regrouped true true true = refl
regrouped true true false = refl
regrouped true false true = refl
regrouped true false false = refl
regrouped false n true = refl
regrouped false n false = refl

-- the last of three tests where the first two do not both pass, and where they do
cut : (p n d : Bool) → (p && n) ≡ false → false ≡ (p && (n && d))
cut true true d e = sym e ∙ absurd (cc)
cut true false d e = refl
cut false n d e = refl

whole : (p n d : Bool) → (p && n) ≡ true → d ≡ (p && (n && d))
whole true true d e = refl
whole true false d e = absurd (cc)
whole false n d e = absurd (cc)

module _ (s : Slots) (a : Arrival) where
  -- whether a live class is looked at and defines the variable
  pub defined-told : IsOrderly s → (k : ℕ) (c : ClassRec) → live_at s.classes s.class_order k ≡ Some c
      → is_live_that (is_defined_beside s a) s k ≡ (defines nat_eq a.variable (class_of s.classes c) && is_beside s a k)
  defined-told orderly k c e =
      ap (λ (o : Option ClassRec). option_map_or (λ (d : ClassRec). is_defined_beside s a (class_of s.classes d)) o false) e
      ∙ regrouped (stands_below nat_eq (number_image s).classes a.class (class_of s.classes c)) (not (list_any (λ d. stands_below nat_eq (number_image s).classes d (class_of s.classes c)) a.excepted.now)) (defines nat_eq a.variable (class_of s.classes c))
      ∙ (λ i. defines nat_eq a.variable (class_of s.classes c) && beside i)
    where
      here : IsLive s.class_order k × (slice_get s.classes k ≡ Some c)
      here = live-live_at s.classes s.class_order k c e

      beside : (stands_below nat_eq (number_image s).classes a.class (class_of s.classes c) && not (list_any (λ d. stands_below nat_eq (number_image s).classes d (class_of s.classes c)) a.excepted.now)) ≡ is_beside s a k
      beside =
          sym (ap (λ (es : List (ClassOf ℕ)). list_any (λ (d : ClassOf ℕ). nat_eq a.class d.name) es && not (list_any (λ n. list_any (λ (d : ClassOf ℕ). nat_eq n d.name) es) a.excepted.now)) (chain-class s orderly k c here.0 here.1))

  abbrev below : MethodRec → Bool
  below m = is_on_chain nat_eq (number_image s).classes a.class (class_name s.classes m.class)

  abbrev outside : MethodRec → Bool
  outside m = not (list_any (λ d. is_on_chain nat_eq (number_image s).classes d (class_name s.classes m.class)) a.excepted.now)

  -- a method of a class that is not looked at
  pub apart-told : (i : MethodInfo) (o : Option MethodRec) → IsInfoOf (Some i) o → is_beside s a i.class ≡ false → false ≡ option_map_or (λ (m : MethodRec). is_named_beside (number_image s) a (entry_of s.classes m)) o false
  apart-told i None t e = absurd t
  apart-told i (Some m) t e = cut (below m) (outside m) (is_in_tree a.variable (method_of m.tree)) (ap (is_beside s a) (sym t.class) ∙ e)

  -- a method of one that is
  pub beside-told : (i : MethodInfo) (t : Method) (o : Option MethodRec) → IsInfoOf (Some i) o → Some t ≡ option_map (λ (m : MethodRec). m.tree) o → is_beside s a i.class ≡ true
      → is_in_tree a.variable (method_of t) ≡ option_map_or (λ (m : MethodRec). is_named_beside (number_image s) a (entry_of s.classes m)) o false
  beside-told i t None told q e = absurd told
  beside-told i t (Some m) told q e =
      let same : t ≡ m.tree = cc in
      ap (λ (u : Method). is_in_tree a.variable (method_of u)) same
      ∙ whole (below m) (outside m) (is_in_tree a.variable (method_of m.tree)) (ap (is_beside s a) (sym told.class) ∙ e)
