-- Chains of live classes, and the class of a name.
use Rattle.std.proofs.Common.{◌≡◌, ℕ, Bool, true, false, ◌&&◌, List, [], length, true≢false, Option, None, Some, option_map, slice_get, refl, sym, ap, ◌∙◌}
use Rattle.std.specs.Prelude.{nat_eq}
use Rattle.std.specs.Option.{option_and_then, option_map_or}
use Rattle.image_model.specs.Image.{ClassOf}
use Rattle.image_model.specs.Chain.{class_named, class_of_name, superclass_of, chain_from, chain}
use Rattle.image_model.proofs.UpwardsLemmas.{upwards-none}
use Rattle.class_table.specs.declared.record.ClassRec.{ClassRec}
use Rattle.class_table.specs.Slots.{Slots}
use Rattle.class_table.specs.View.{class_name, class_of, class_at, live_at, number_image}
use Rattle.class_table.specs.Valid.{IsLive, IsOrderly}
use Rattle.class_table.specs.Finding.{is_named, named_in}
use Rattle.class_table.proofs.Live.{eqb-equal, find-passes}
use Rattle.class_table.proofs.Found.{class_named-live, class_named-named_in}
use Rattle.class_questions.proofs.AnyLive.{live_at-live}

-- the chain that begins at a live class
pub chain-class : (s : Slots) → IsOrderly s → (k : ℕ) (c : ClassRec) → IsLive s.class_order k → slice_get s.classes k ≡ Some c
    → chain nat_eq (number_image s).classes (class_name s.classes k) ≡ chain_from nat_eq (number_image s).classes (Some (class_of s.classes c))
chain-class s orderly k c l e =
    ap (λ o. chain_from nat_eq (number_image s).classes (class_of_name nat_eq (number_image s).classes (option_map (λ (x : ClassRec). x.name) o))) e
    ∙ ap (chain_from nat_eq (number_image s).classes) (class_named-live s orderly k c l e)

-- what is read of the class of a name
pub named-record : (s : Slots) (n : ℕ) → option_map (class_of s.classes) (option_and_then (live_at s.classes s.class_order) (named_in s.classes s.class_order n)) ≡ class_named nat_eq (number_image s).classes n
named-record s n = by (named_in s.classes s.class_order n) refl ∙ sym (class_named-named_in s n)
  where
    by : (o : Option ℕ) → named_in s.classes s.class_order n ≡ o → option_map (class_of s.classes) (option_and_then (live_at s.classes s.class_order) o) ≡ option_and_then (class_at s) o
    by None e = refl
    by (Some k) e = ap (option_map (class_of s.classes)) (live_at-live s.classes s.class_order k (find-passes (is_named s.classes n) s.class_order k e).1)

-- the slot that is found for a name is live, and its class has the name
pub named-slot : (classes : List ClassRec) (order : List ℕ) (n k : ℕ) → named_in classes order n ≡ Some k → IsLive order k × (class_name classes k ≡ Some n)
named-slot classes order n k e = let found = find-passes (is_named classes n) order k e in (found.1, by (class_name classes k) found.0)
  where
    by : (o : Option ℕ) → option_map_or (nat_eq n) o false ≡ true → o ≡ Some n
    by None h = absurd (true≢false (sym h))
    by (Some m) h = ap Some (sym (eqb-equal n m h))

-- where none is found, the chain of the name is empty
pub unnamed-chain : (s : Slots) (n : ℕ) → named_in s.classes s.class_order n ≡ None → chain nat_eq (number_image s).classes (Some n) ≡ []
unnamed-chain s n e =
    ap (chain_from nat_eq (number_image s).classes) (class_named-named_in s n ∙ ap (option_and_then (class_at s)) e)
    ∙ upwards-none (superclass_of nat_eq (number_image s).classes) (length (number_image s).classes)

-- two tests in the other order
pub and-comm : (a b : Bool) → (a && b) ≡ (b && a)
and-comm true true = refl
and-comm true false = refl
and-comm false true = refl
and-comm false false = refl
