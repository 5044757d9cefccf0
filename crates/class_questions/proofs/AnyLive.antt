-- Tests of what the live slots hold.
use Rattle.std.proofs.Common.{◌≡◌, ℕ, ◌||◌, Bool, true, false, cond, List, [], ◌∷◌, map, Option, None, Some, option_map, slice_get, refl, sym, ap, subst, ◌∙◌, true≢false}
use Rattle.std.specs.Prelude.{nat_eq}
use Rattle.std.specs.List.{list_any, cons_option}
use Rattle.std.specs.Option.{option_map_or}
use Rattle.class_table.specs.View.{live, live_at}
use Rattle.class_table.specs.Valid.{IsLive}
use Rattle.class_table.proofs.Live.{IsLive-first, IsLive-rest}

-- two tests that agree on the live slots
pub any-agree : (p q : ℕ → Bool) (order : List ℕ) → ((k : ℕ) → IsLive order k → p k ≡ q k) → list_any p order ≡ list_any q order
any-agree p q [] same = refl
any-agree p q (k ∷ ks) same =
    let rest = any-agree p q ks (λ j h. same j (IsLive-rest j k ks h)) in
    λ i. same k (IsLive-first k ks) i || rest i

module _ {X : Type 0} (xs : List X) (order : List ℕ) (k : ℕ) where
  -- what a live slot holds
  pub live_at-live : IsLive order k → live_at xs order k ≡ slice_get xs k
  live_at-live l = ap (λ b. cond b (slice_get xs k) None) l

  -- a slot of which something is told is live, and holds it
  pub live-live_at : (x : X) → live_at xs order k ≡ Some x → IsLive order k × (slice_get xs k ≡ Some x)
  live-live_at x = by (list_any (nat_eq k) order) refl
    where
      by : (b : Bool) → list_any (nat_eq k) order ≡ b → cond b (slice_get xs k) None ≡ Some x → (list_any (nat_eq k) order ≡ true) × (slice_get xs k ≡ Some x)
      by true l e = (l, e)
      by false l e = absurd (cc)

module _ {X Y : Type 0} (g : X → Y) (t : Y → Bool) (xs : List X) where
  -- a test of the slots, and of the list of what they hold
  any-slots : (order : List ℕ) → list_any (λ k. option_map_or (λ x. t (g x)) (slice_get xs k) false) order ≡ list_any t (map g (live xs order))
  any-slots [] = refl
  any-slots (k ∷ ks) = by (slice_get xs k) ∙ ap (λ (rest : Bool). list_any t (map g (cons_option (slice_get xs k) [])) || rest) (any-slots ks) ∙ joined (slice_get xs k)
    where
      by : (o : Option X) → (option_map_or (λ x. t (g x)) o false || list_any (λ j. option_map_or (λ x. t (g x)) (slice_get xs j) false) ks)
          ≡ (list_any t (map g (cons_option o [])) || list_any (λ j. option_map_or (λ x. t (g x)) (slice_get xs j) false) ks)
      by None = refl
      by (Some x) = ap (λ (b : Bool). b || list_any (λ j. option_map_or (λ x. t (g x)) (slice_get xs j) false) ks) (last (t (g x)))
        where
          last : (b : Bool) → b ≡ (b || false)
          last true = refl
          last false = refl

      joined : (o : Option X) → (list_any t (map g (cons_option o [])) || list_any t (map g (live xs ks))) ≡ list_any t (map g (cons_option o (live xs ks)))
      joined None = refl
      joined (Some x) = one (t (g x))
        where
          one : (b : Bool) → ((b || false) || list_any t (map g (live xs ks))) ≡ (b || list_any t (map g (live xs ks)))
          one true = refl
          one false = refl

  -- the same, where it is asked whether the slots are live
  pub any_live : (order : List ℕ) → list_any (λ k. option_map_or (λ x. t (g x)) (live_at xs order k) false) order ≡ list_any t (map g (live xs order))
  any_live order =
      any-agree (λ k. option_map_or (λ x. t (g x)) (live_at xs order k) false) (λ k. option_map_or (λ x. t (g x)) (slice_get xs k) false) order
      (λ k l. ap (λ o. option_map_or (λ x. t (g x)) o false) (live_at-live xs order k l))
      ∙ any-slots order
