-- Items of lists that are changed twice.
use Rattle.std.proofs.Common.{◌≡◌, ℕ, zero, suc, Bool, true, false, List, [], ◌∷◌, length, Option, None, Some, slice_get, refl, sym, ap, ◌∙◌}
use Rattle.std.specs.Prelude.{if◌then◌else◌}
use Rattle.std.specs.List.{list_any}
use Rattle.std.specs.Option.{option_map_or}
use Rattle.std.proofs.Math.ListN.{set}
use Rattle.std.proofs.Math.Dec.{eqb}
use Rattle.class_table.specs.Changing.{changed_at}
use Rattle.class_table.specs.View.{live_at}
use Rattle.class_table.specs.Valid.{IsLive}
use Rattle.class_table.proofs.OrderLemmas.{length-set}
use Rattle.image_laws.proofs.Lists.{changed_at-some, get-changed_at, changed_at-back}

-- a slot that is live, and what it holds
pub record Holds {X : Type 0} (xs : List X) (order : List ℕ) (k : ℕ) (x : X) : Type 0 where
  pub live : IsLive order k
  pub stands : slice_get xs k ≡ Some x

module _ {X : Type 0} where
  -- an item that is written twice
  set-set : (xs : List X) (k : ℕ) (x y : X) → set (set xs k x) k y ≡ set xs k y
  set-set [] k x y = refl
  set-set (z ∷ zs) zero x y = refl
  set-set (z ∷ zs) (suc k) x y = ap (λ (ws : List X). z ∷ ws) (set-set zs k x y)

  -- two changes of an item are one
  changed_at-twice : (f g : X → X) (xs : List X) (k : ℕ) (x : X) → slice_get xs k ≡ Some x → changed_at g (changed_at f xs k) k ≡ changed_at (λ y. g (f y)) xs k
  changed_at-twice f g xs k x e =
      changed_at-some g (changed_at f xs k) k (f x) (get-changed_at f xs k x e)
      ∙ ap (λ (ys : List X). set ys k (g (f x))) (changed_at-some f xs k x e)
      ∙ set-set xs k (f x) (g (f x))
      ∙ sym (changed_at-some (λ y. g (f y)) xs k x e)

  module _ (f g : X → X) (xs : List X) (k : ℕ) (x : X) (e : slice_get xs k ≡ Some x) where
    -- what stands where an item was changed twice
    pub get-twice : slice_get (changed_at g (changed_at f xs k) k) k ≡ Some (g (f x))
    get-twice = get-changed_at g (changed_at f xs k) k (f x) (get-changed_at f xs k x e)

    -- two changes that two others take back
    pub twice-back : (h j : X → X) → j (h (g (f x))) ≡ x → changed_at j (changed_at h (changed_at g (changed_at f xs k) k) k) k ≡ xs
    twice-back h j back =
        changed_at-twice h j (changed_at g (changed_at f xs k) k) k (g (f x)) get-twice
        ∙ ap (λ (ys : List X). changed_at (λ y. j (h y)) ys k) (changed_at-twice f g xs k x e)
        ∙ changed_at-back (λ y. g (f y)) (λ y. j (h y)) xs k x e back

  -- a change keeps the length
  pub length-changed_at : (f : X → X) (xs : List X) (k : ℕ) → length (changed_at f xs k) ≡ length xs
  length-changed_at f xs k = by (slice_get xs k)
    where
      by : (o : Option X) → length (option_map_or (λ y. set xs k (f y)) o xs) ≡ length xs
      by None = refl
      by (Some x) = length-set xs k (f x)

  -- what a live slot holds
  pub live_at-some : (xs : List X) (order : List ℕ) (k : ℕ) (x : X) → IsLive order k → slice_get xs k ≡ Some x → live_at xs order k ≡ Some x
  live_at-some xs order k x live e = ap (λ (b : Bool). if b then slice_get xs k else None) live ∙ e

  pub live_at-holds : (xs : List X) (order : List ℕ) (k : ℕ) (x : X) → live_at xs order k ≡ Some x → Holds xs order k x
  live_at-holds xs order k x e = by (list_any (eqb k) order) refl e
    where
      by : (b : Bool) → list_any (eqb k) order ≡ b → (if b then slice_get xs k else None) ≡ Some x → Holds xs order k x
      by true l h = record { live = l; stands = h }
      by false l h = absurd (cc)
