-- The walk up the chain of a class that gathers classes.
use Rattle.std.proofs.Common.{◌≡◌, ℕ, suc, Bool, true, false, List, ◌∷◌, ◌++◌, length, map, Option, Some, None, option_map, refl, sym, ap, subst, ◌∙◌}
use Rattle.std.specs.Prelude.{nat_eq, filter, if◌then◌else◌, option_and_then}
use Rattle.std.specs.List.{filter_map, cons_option}
use Rattle.image_model.specs.Chain.{chain}
use Rattle.image_model.specs.Upwards.{upwards}
use Rattle.image_model.proofs.UpwardsLemmas.{upwards-none}
use Rattle.class_table.specs.declared.record.ClassRec.{ClassRec}
use Rattle.class_table.specs.Slots.{Slots}
use Rattle.class_table.specs.View.{class_at, class_of, live_at, number_image}
use Rattle.class_table.specs.Valid.{IsLive, IsOrderly}
use Rattle.class_table.specs.Finding.{above, named_in, only_live}
use Rattle.class_questions.proofs.AnyLive.{live-live_at}
use Rattle.class_questions.proofs.ChainLaws.{named-slot, unnamed-chain}
use Rattle.name_meanings.proofs.Walks.{classes_from, chain-classes}
use Rattle.refusal_witnesses.specs.Witnesses.{WitnessOf, where_true}

-- the chain of a name begins at the slot that is found for it
pub chain-start : (s : Slots) → IsOrderly s → (name : ℕ) (o : Option ℕ) → o ≡ named_in s.classes s.class_order name
    → ((k : ℕ) → o ≡ Some k → IsLive s.class_order k) × (classes_from s (length s.class_order) o ≡ chain nat_eq (number_image s).classes (Some name))
chain-start s orderly name None e =
    (λ k h. absurd (cc), ap (filter_map (class_at s)) (upwards-none (above s.classes s.class_order) (length s.class_order)) ∙ sym (unnamed-chain s name (sym e)))
chain-start s orderly name (Some j) e =
    let named = named-slot s.classes s.class_order name j (sym e) in (
      λ k h. let same : j ≡ k = cc in subst (IsLive s.class_order) same named.0,
      sym (chain-classes s orderly j named.0) ∙ ap (chain nat_eq (number_image s).classes) named.1,
    )

module _ (s : Slots) (orderly : IsOrderly s) (id : ℕ) (c : ClassRec) (e : live_at s.classes s.class_order id ≡ Some c) where
  -- the superclass is live
  pub above-live : (k : ℕ) → c.superclass ≡ Some k → IsLive s.class_order k
  above-live k q = let held = live-live_at s.classes s.class_order id c e in orderly.superclasses_live k id c held.0 held.1 q

  -- a class, and those above it
  pub class-first : (n : ℕ) → classes_from s (suc n) (Some id) ≡ class_of s.classes c ∷ classes_from s n c.superclass
  class-first n = λ i. cons_option (here i) (filter_map (class_at s) (upwards (above s.classes s.class_order) n (up i)))
    where
      here : class_at s id ≡ Some (class_of s.classes c)
      here = ap (option_map (class_of s.classes)) (live-live_at s.classes s.class_order id c e).1

      by : (o : Option ℕ) → c.superclass ≡ o → option_and_then (only_live s.class_order) o ≡ o
      by None q = refl
      by (Some k) q = ap (λ (b : Bool). if b then Some k else None) (above-live k q)

      up : above s.classes s.class_order id ≡ c.superclass
      up = ap (option_and_then (λ (x : ClassRec). option_and_then (only_live s.class_order) x.superclass)) (live-live_at s.classes s.class_order id c e).1 ∙ by c.superclass refl

-- one more item that may pass a test
pub where-first : {X N : Type 0} (p : X → Bool) (h : X → WitnessOf N) (x : X) (xs : List X) → where_true (p x) (h x) ++ map h (filter p xs) ≡ map h (filter p (x ∷ xs))
where-first p h x xs = by (p x)
  where
    by : (b : Bool) → where_true b (h x) ++ map h (filter p xs) ≡ map h (if b then x ∷ filter p xs else filter p xs)
    by true = refl
    by false = refl
