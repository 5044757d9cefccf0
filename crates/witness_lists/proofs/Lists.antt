-- Lists that are gathered item by item.
use Rattle.std.proofs.Common.{◌≡◌, ℕ, Bool, true, false, List, [], ◌∷◌, ◌++◌, map, Option, None, Some, slice_get, refl, ap, ◌∙◌}
use Rattle.std.specs.Prelude.{filter, if◌then◌else◌}
use Rattle.std.specs.List.{flat_map, cons_option}
use Rattle.std.specs.Option.{option_map_or}
use Rattle.class_table.specs.View.{live, live_at}
use Rattle.class_table.specs.Valid.{IsLive}
use Rattle.class_table.proofs.Live.{IsLive-first, IsLive-rest}
use Rattle.class_questions.proofs.AnyLive.{live_at-live}
use Rattle.refusal_witnesses.specs.Witnesses.{WitnessOf, where_true}

-- what is gathered of live slots in two ways
pub gathered-agree : {Z : Type 0} (p q : ℕ → List Z) (order : List ℕ) → ((k : ℕ) → IsLive order k → p k ≡ q k) → flat_map p order ≡ flat_map q order
gathered-agree p q [] same = refl
gathered-agree p q (k ∷ ks) same =
    let rest = gathered-agree p q ks (λ j h. same j (IsLive-rest j k ks h)) in
    λ i. same k (IsLive-first k ks) i ++ rest i

module _ {X Y Z : Type 0} (g : X → Y) (f : Y → List Z) (xs : List X) where
  -- what is gathered of the slots, and of the list of what they hold
  gathered-slots : (order : List ℕ) → flat_map (λ k. option_map_or (λ x. f (g x)) (slice_get xs k) []) order ≡ flat_map f (map g (live xs order))
  gathered-slots [] = refl
  gathered-slots (k ∷ ks) = ap (λ (rest : List Z). option_map_or (λ x. f (g x)) (slice_get xs k) [] ++ rest) (gathered-slots ks) ∙ by (slice_get xs k)
    where
      by : (o : Option X) → option_map_or (λ x. f (g x)) o [] ++ flat_map f (map g (live xs ks)) ≡ flat_map f (map g (cons_option o (live xs ks)))
      by None = refl
      by (Some x) = refl

  -- the same, if it is asked as well whether the slots are live
  pub gathered_live : (order : List ℕ) → flat_map (λ k. option_map_or (λ x. f (g x)) (live_at xs order k) []) order ≡ flat_map f (map g (live xs order))
  gathered_live order =
      gathered-agree (λ k. option_map_or (λ x. f (g x)) (live_at xs order k) []) (λ k. option_map_or (λ x. f (g x)) (slice_get xs k) []) order
      (λ k l. ap (λ o. option_map_or (λ x. f (g x)) o []) (live_at-live xs order k l))
      ∙ gathered-slots order

-- witnesses of the items that pass a test
pub where-filter : {X N : Type 0} (p : X → Bool) (h : X → WitnessOf N) (xs : List X) → flat_map (λ x. where_true (p x) (h x)) xs ≡ map h (filter p xs)
where-filter p h [] = refl
where-filter p h (x ∷ xs) = ap (λ rest. where_true (p x) (h x) ++ rest) (where-filter p h xs) ∙ by (p x)
  where
    by : (b : Bool) → where_true b (h x) ++ map h (filter p xs) ≡ map h (if b then x ∷ filter p xs else filter p xs)
    by true = refl
    by false = refl
