-- Lists in which an item is taken out, put in or written, and then the change is taken back.
use Rattle.std.proofs.Common.{◌≡◌, ℕ, zero, suc, List, [], ◌∷◌, map, Option, Some, slice_get, refl, ap, ◌∙◌}
use Rattle.std.specs.Prelude.{insert}
use Rattle.std.specs.List.{remove}
use Rattle.std.specs.Option.{option_map_or}
use Rattle.std.proofs.Math.ListN.{set}
use Rattle.std.proofs.lemmas.Option.{slice_get_within}
use Rattle.class_table.specs.Changing.{changed_at}
use Rattle.class_table.proofs.OrderLemmas.{get-set_same}

module _ {X : Type 0} where
  -- an item that is taken out and put in again where it stood
  pub insert-remove : (xs : List X) (i : ℕ) (x : X) → slice_get xs i ≡ Some x → insert (remove xs i) i x ≡ xs
  insert-remove [] i x e = absurd (cc)
  insert-remove (y ∷ ys) zero x e = let same : x ≡ y = cc in ap (λ (z : X). z ∷ ys) same
  insert-remove (y ∷ ys) (suc i) x e = ap (λ (zs : List X). y ∷ zs) (insert-remove ys i x e)

  -- an item that is written over and then written again
  pub set-back : (xs : List X) (k : ℕ) (x y : X) → slice_get xs k ≡ Some x → set (set xs k y) k x ≡ xs
  set-back [] k x y e = absurd (cc)
  set-back (z ∷ zs) zero x y e = let same : x ≡ z = cc in ap (λ (w : X). w ∷ zs) same
  set-back (z ∷ zs) (suc k) x y e = ap (λ (ws : List X). z ∷ ws) (set-back zs k x y e)

  -- a change of an item that is there
  pub changed_at-some : (f : X → X) (xs : List X) (k : ℕ) (x : X) → slice_get xs k ≡ Some x → changed_at f xs k ≡ set xs k (f x)
  changed_at-some f xs k x e = ap (λ (o : Option X). option_map_or (λ y. set xs k (f y)) o xs) e

  -- what stands where an item was changed
  pub get-changed_at : (f : X → X) (xs : List X) (k : ℕ) (x : X) → slice_get xs k ≡ Some x → slice_get (changed_at f xs k) k ≡ Some (f x)
  get-changed_at f xs k x e = ap (λ (ys : List X). slice_get ys k) (changed_at-some f xs k x e) ∙ get-set_same xs k (f x) (slice_get_within xs k x e)

  -- a change that another one takes back
  pub changed_at-back : (f g : X → X) (xs : List X) (k : ℕ) (x : X) → slice_get xs k ≡ Some x → g (f x) ≡ x → changed_at g (changed_at f xs k) k ≡ xs
  changed_at-back f g xs k x e back =
      changed_at-some g (changed_at f xs k) k (f x) (get-changed_at f xs k x e) ∙ (λ i. set (changed_at-some f xs k x e i) k (back i)) ∙ set-back xs k x (f x) e

module _ {X Y : Type 0} (f : X → Y) where
  pub map-insert : (xs : List X) (p : ℕ) (x : X) → map f (insert xs p x) ≡ insert (map f xs) p (f x)
  map-insert [] zero x = refl
  map-insert [] (suc p) x = refl
  map-insert (y ∷ ys) zero x = refl
  map-insert (y ∷ ys) (suc p) x = ap (λ (zs : List Y). f y ∷ zs) (map-insert ys p x)

  pub map-remove : (xs : List X) (p : ℕ) → map f (remove xs p) ≡ remove (map f xs) p
  map-remove [] zero = refl
  map-remove [] (suc p) = refl
  map-remove (y ∷ ys) zero = refl
  map-remove (y ∷ ys) (suc p) = ap (λ (zs : List Y). f y ∷ zs) (map-remove ys p)
