-- Marks that are put once each.
use Rattle.std.proofs.Common.{◌≡◌, Bool, true, false, List, [], ◌∷◌, ◌++◌, refl, ap}
use Rattle.std.specs.Prelude.{◌||◌, if◌then◌else◌}
use Rattle.std.specs.List.{AllByRecursion}
use Rattle.derivations.specs.Signs.{Sign, same_sign}
use Rattle.derivations.specs.Named.{has_sign, with_sign, with_signs}
use Rattle.derivations.specs.Taken.{AreOnce}
use Rattle.derivations.proofs.Alike.{sign_same}

-- a mark that is not there comes to the end
ends : (ss : List Sign) (s t : Sign) → same_sign s t ≡ false → AllByRecursion (λ u. same_sign s u ≡ false) ss → AllByRecursion (λ u. same_sign s u ≡ false) (ss ++ t ∷ [])
ends [] s t e h = (e, tt)
ends (x ∷ ss) s t e h = (h.0, ends ss s t e h.1)

neither : (a b : Bool) → (a || b) ≡ false → (a ≡ false) × (b ≡ false)
neither true b e = let bad : ⊥ = cc in absurd bad
neither false b e = (refl, e)

put_once : (ss : List Sign) (t : Sign) → has_sign ss t ≡ false → AreOnce ss → AreOnce (ss ++ t ∷ [])
put_once [] t e h = (tt, tt)
put_once (s ∷ ss) t e h = let n = neither (same_sign s t) (has_sign ss t) e in (ends ss s t n.0 h.0, put_once ss t n.1 h.1)

with_once : (ss : List Sign) (t : Sign) → AreOnce ss → AreOnce (with_sign ss t)
with_once ss t h = by (has_sign ss t) refl
  where
    by : (b : Bool) → has_sign ss t ≡ b → AreOnce (if b then ss else ss ++ t ∷ [])
    by true e = h
    by false e = put_once ss t e h

pub all_once : (ss ts : List Sign) → AreOnce ss → AreOnce (with_signs ss ts)
all_once ss [] h = h
all_once ss (t ∷ ts) h = all_once (with_sign ss t) ts (with_once ss t h)

-- each is there
last_there : (ss : List Sign) (t : Sign) → has_sign (ss ++ t ∷ []) t ≡ true
last_there [] t = ap (λ (b : Bool). b || false) (sign_same t)
last_there (s ∷ ss) t = by (same_sign s t) (last_there ss t)
  where
    by : (b : Bool) → has_sign (ss ++ t ∷ []) t ≡ true → (b || has_sign (ss ++ t ∷ []) t) ≡ true
    by true h = refl
    by false h = h

still : (ss : List Sign) (t u : Sign) → has_sign ss u ≡ true → has_sign (ss ++ t ∷ []) u ≡ true
still [] t u h = let bad : ⊥ = cc in absurd bad
still (s ∷ ss) t u h = by (same_sign s u) h (still ss t u)
  where
    by : (b : Bool) → (b || has_sign ss u) ≡ true → (has_sign ss u ≡ true → has_sign (ss ++ t ∷ []) u ≡ true) → (b || has_sign (ss ++ t ∷ []) u) ≡ true
    by true e f = refl
    by false e f = f e

with_there : (ss : List Sign) (t : Sign) → has_sign (with_sign ss t) t ≡ true
with_there ss t = by (has_sign ss t) refl
  where
    by : (b : Bool) → has_sign ss t ≡ b → has_sign (if b then ss else ss ++ t ∷ []) t ≡ true
    by true e = e
    by false e = last_there ss t

with_still : (ss : List Sign) (t u : Sign) → has_sign ss u ≡ true → has_sign (with_sign ss t) u ≡ true
with_still ss t u h = by (has_sign ss t)
  where
    by : (b : Bool) → has_sign (if b then ss else ss ++ t ∷ []) u ≡ true
    by true = h
    by false = still ss t u h

all_still : (ss ts : List Sign) (u : Sign) → has_sign ss u ≡ true → has_sign (with_signs ss ts) u ≡ true
all_still ss [] u h = h
all_still ss (t ∷ ts) u h = all_still (with_sign ss t) ts u (with_still ss t u h)

pub all_there : (ss ts : List Sign) → AllByRecursion (λ t. has_sign (with_signs ss ts) t ≡ true) ts
all_there ss [] = tt
all_there ss (t ∷ ts) = (all_still (with_sign ss t) ts t (with_there ss t), all_there (with_sign ss t) ts)

-- a fact of each stays one
module _ (P : Sign → Type 0) where
  pub all_end : (ss : List Sign) (t : Sign) → AllByRecursion P ss → P t → AllByRecursion P (ss ++ t ∷ [])
  all_end [] t h p = (p, tt)
  all_end (s ∷ ss) t h p = (h.0, all_end ss t h.1 p)

  with_all : (ss : List Sign) (t : Sign) → AllByRecursion P ss → P t → AllByRecursion P (with_sign ss t)
  with_all ss t h p = by (has_sign ss t)
    where
      by : (b : Bool) → AllByRecursion P (if b then ss else ss ++ t ∷ [])
      by true = h
      by false = all_end ss t h p

  pub all_keep : (ss ts : List Sign) → AllByRecursion P ss → AllByRecursion P ts → AllByRecursion P (with_signs ss ts)
  all_keep ss [] h g = h
  all_keep ss (t ∷ ts) h g = all_keep (with_sign ss t) ts (with_all ss t h g.0) g.1

  -- of two lists
  pub all_both : (ss ts : List Sign) → AllByRecursion P ss → AllByRecursion P ts → AllByRecursion P (ss ++ ts)
  all_both [] ts h g = g
  all_both (s ∷ ss) ts h g = (h.0, all_both ss ts h.1 g)

  pub all_first : (ss ts : List Sign) → AllByRecursion P (ss ++ ts) → AllByRecursion P ss
  all_first [] ts h = tt
  all_first (s ∷ ss) ts h = (h.0, all_first ss ts h.1)

  pub all_second : (ss ts : List Sign) → AllByRecursion P (ss ++ ts) → AllByRecursion P ts
  all_second [] ts h = h
  all_second (s ∷ ss) ts h = all_second ss ts h.1

-- marks that are put one after the other
pub put_twice : (ss ts us : List Sign) → with_signs ss (ts ++ us) ≡ with_signs (with_signs ss ts) us
put_twice ss [] us = refl
put_twice ss (t ∷ ts) us = put_twice (with_sign ss t) ts us
