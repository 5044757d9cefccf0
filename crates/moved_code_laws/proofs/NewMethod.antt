-- A new method of a fresh selector behind the last one of its class and side: it is found there, and it is gone before.
use Rattle.std.proofs.Common.{◌≡◌, List, [], ◌∷◌, Some, None, refl, ap, ◌∙◌}
use Rattle.std.specs.Prelude.{Bool, true, false, not, ◌&&◌, ◌||◌, cond, if◌then◌else◌, find}
use Rattle.std.specs.List.{AllByRecursion, list_any}
use Rattle.std.proofs.lemmas.Bool.{false≢true}
use Rattle.command_model.specs.Extracted.{put_behind_last}

-- what fails last
pub last-fails : (a b : Bool) → b ≡ false → (a && b) ≡ false
last-fails true b e = e
last-fails false b e = refl

module _ {X : Type 0} (passes : X → Bool) (x : X) (p : X → Bool) where
  -- where nothing else passes a test, the new item is found
  pub find-put : (ys : List X) → AllByRecursion (λ y. p y ≡ false) ys → p x ≡ true → list_any passes ys ≡ true → find p (put_behind_last passes x ys) ≡ Some x
  find-put [] a t e = absurd (false≢true e)
  find-put (y ∷ ys) a t e = by (passes y) (list_any passes ys) e (find-put ys a.1 t)
    where
      first : (zs : List X) → find p (y ∷ zs) ≡ find p zs
      first zs = ap (λ b. cond b (Some y) (find p zs)) a.0

      by : (b c : Bool) → (b || c) ≡ true → (c ≡ true → find p (put_behind_last passes x ys) ≡ Some x) → find p (if b && not c then y ∷ x ∷ ys else y ∷ put_behind_last passes x ys) ≡ Some x
      by true false e ih = first (x ∷ ys) ∙ ap (λ b. cond b (Some x) (find p ys)) t
      by true true e ih = first (put_behind_last passes x ys) ∙ ih refl
      by false c e ih = first (put_behind_last passes x ys) ∙ ih e

  -- where it does not pass either, nothing is found
  pub find-none : (ys : List X) → AllByRecursion (λ y. p y ≡ false) ys → p x ≡ false → find p (put_behind_last passes x ys) ≡ None
  find-none [] a t = refl
  find-none (y ∷ ys) a t = by (passes y && not (list_any passes ys)) (find-none ys a.1 t)
    where
      fails : (zs : List X) → AllByRecursion (λ y. p y ≡ false) zs → find p zs ≡ None
      fails [] b = refl
      fails (z ∷ zs) b = ap (λ c. cond c (Some z) (find p zs)) b.0 ∙ fails zs b.1

      by : (b : Bool) → find p (put_behind_last passes x ys) ≡ None → find p (if b then y ∷ x ∷ ys else y ∷ put_behind_last passes x ys) ≡ None
      by true ih = ap (λ b. cond b (Some y) (find p (x ∷ ys))) a.0 ∙ ap (λ b. cond b (Some x) (find p ys)) t ∙ fails ys a.1
      by false ih = ap (λ b. cond b (Some y) (find p (put_behind_last passes x ys))) a.0 ∙ ih
