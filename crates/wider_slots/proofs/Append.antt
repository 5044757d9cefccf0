-- Lists with further items at the end.
use Rattle.std.proofs.Common.{◌≡◌, ℕ, zero, suc, ◌<◌, List, [], ◌∷◌, ◌++◌, length, Option, None, Some, slice_get, refl, sym, ap, ◌∙◌, arith, length-append}
use Rattle.std.specs.Prelude.{if◌then◌else◌}
use Rattle.std.specs.List.{list_any}
use Rattle.std.proofs.Math.Dec.{eqb}
use Rattle.std.proofs.lemmas.List.{set-append_left}
use Rattle.std.proofs.lemmas.Option.{slice_get_within}
use Rattle.class_table.specs.Changing.{changed_at}
use Rattle.class_table.specs.View.{live_at}
use Rattle.image_laws.proofs.Lists.{changed_at-some, get-changed_at}

module _ {X : Type 0} where
  -- a place below the length stays one
  pub further : (xs ys : List X) (k : ℕ) → k < length xs → k < length (xs ++ ys)
  further xs ys k h = omega (arith, h, length-append xs ys)

  -- what stands at a place below the length
  pub get-append : (xs ys : List X) (k : ℕ) → k < length xs → slice_get (xs ++ ys) k ≡ slice_get xs k
  get-append [] ys k h = absurd (omega arith)
  get-append (x ∷ xs) ys zero h = refl
  get-append (x ∷ xs) ys (suc k) h = get-append xs ys k (omega (arith, h))

  module _ (xs ys : List X) (k : ℕ) (x : X) (e : slice_get xs k ≡ Some x) where
    -- what stands at a place still does
    pub get-still : slice_get (xs ++ ys) k ≡ slice_get xs k
    get-still = get-append xs ys k (slice_get_within xs k x e)

    -- so does what a live slot holds
    pub live_at-still : (order : List ℕ) → live_at (xs ++ ys) order k ≡ live_at xs order k
    live_at-still order = ap (λ (o : Option X). if list_any (eqb k) order then o else None) get-still

    -- a change of an item that is there
    pub changed_at-append : (f : X → X) → changed_at f (xs ++ ys) k ≡ changed_at f xs k ++ ys
    changed_at-append f =
        changed_at-some f (xs ++ ys) k x (get-still ∙ e)
        ∙ set-append_left xs ys k (f x) (slice_get_within xs k x e)
        ∙ sym (ap (λ (zs : List X). zs ++ ys) (changed_at-some f xs k x e))

  -- two changes of it
  pub changed_twice-append : (xs ys : List X) (k : ℕ) (x : X) → slice_get xs k ≡ Some x → (f g : X → X) → changed_at g (changed_at f (xs ++ ys) k) k ≡ changed_at g (changed_at f xs k) k ++ ys
  changed_twice-append xs ys k x e f g =
      ap (λ (zs : List X). changed_at g zs k) (changed_at-append xs ys k x e f)
      ∙ changed_at-append (changed_at f xs k) ys k (f x) (get-changed_at f xs k x e) g
