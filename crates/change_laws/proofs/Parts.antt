-- Parts of lists.
use Rattle.std.proofs.Common.{◌≡◌, inl, inr, ℕ, zero, suc, List, [], ◌∷◌, ◌++◌, Bool, true, false, cond, find, Some, slice_get, refl, ap, sym, subst, ◌∙◌, arith}
use Rattle.image_model.specs.Valid.{HasNoRepeat}
use Rattle.file_laws.proofs.Redefined.{no_repeat_behind}
use Rattle.change_laws.specs.Merged.{Has}
use Rattle.change_laws.proofs.Orders.{Passes, at_has}
use Rattle.change_laws.proofs.Tests.{has_at}

-- a list without some of its items
pub data Sub {X : Type 0} : List X → List X → Type 0 where
  Done : {ys : List X} → Sub [] ys
  Take : {x : X} {xs ys : List X} → Sub xs ys → Sub (x ∷ xs) (x ∷ ys)
  Skip : {y : X} {xs ys : List X} → Sub xs ys → Sub xs (y ∷ ys)

module _ {X : Type 0} where
  pub skip_all : (ys : List X) {xs zs : List X} → Sub xs zs → Sub xs (ys ++ zs)
  skip_all [] s = s
  skip_all (y ∷ ys) s = Skip (skip_all ys s)

  pub sub_all : (ys : List X) {xs zs : List X} → Sub xs zs → Sub (ys ++ xs) (ys ++ zs)
  sub_all [] s = s
  sub_all (y ∷ ys) s = Take (sub_all ys s)

  sub_has : {xs ys : List X} → Sub xs ys → (z : X) → Has z xs → Has z ys
  sub_has Done z h = absurd h
  sub_has (Take s) z (inl e) = inl e
  sub_has (Take s) z (inr h) = inr (sub_has s z h)
  sub_has (Skip s) z h = inr (sub_has s z h)

  pub apart_behind : (x : X) (xs : List X) → HasNoRepeat (x ∷ xs) → Has x xs → ⊥
  apart_behind x xs once h = let p = has_at xs x h in let twice : 0 ≡ suc p.0 = once 0 (suc p.0) x refl p.1 in omega (arith, twice)

  no_repeat_from : (x : X) (xs : List X) → (Has x xs → ⊥) → HasNoRepeat xs → HasNoRepeat (x ∷ xs)
  no_repeat_from x xs new once zero zero z e f = refl
  no_repeat_from x xs new once zero (suc k) z e f = let one : x ≡ z = cc in absurd (new (subst (λ (w : X). Has w xs) (sym one) (at_has xs k z f)))
  no_repeat_from x xs new once (suc j) zero z e f = let one : x ≡ z = cc in absurd (new (subst (λ (w : X). Has w xs) (sym one) (at_has xs j z e)))
  no_repeat_from x xs new once (suc j) (suc k) z e f = let one : j ≡ k = once j k z e f in omega (arith, one)

  no_repeat_none : HasNoRepeat {X = X} []
  no_repeat_none j k z e f = absurd (cc)

  -- nothing stands twice in a part where nothing does in the whole
  pub no_repeat_sub : {xs ys : List X} → Sub xs ys → HasNoRepeat ys → HasNoRepeat xs
  no_repeat_sub Done once = no_repeat_none
  no_repeat_sub (Take {x} {xs} {ys} s) once = no_repeat_from x xs (λ h. apart_behind x ys once (sub_has s x h)) (no_repeat_sub s (no_repeat_behind x ys once))
  no_repeat_sub (Skip {y} {xs} {ys} s) once = no_repeat_sub s (no_repeat_behind y ys once)

  -- what is found is one of the list, and passes
  pub finds : (p : X → Bool) (xs : List X) (c : X) → find p xs ≡ Some c → Passes p xs c
  finds p [] c e = absurd (cc)
  finds p (x ∷ xs) c e = by (p x) refl e (λ k. finds p xs c k)
    where
      by : (b : Bool) → p x ≡ b → cond b (Some x) (find p xs) ≡ Some c → (find p xs ≡ Some c → Passes p xs c) → Passes p (x ∷ xs) c
      by true q f rest = let one : x ≡ c = cc in record { there = inl (sym one); passes = ap p (sym one) ∙ q }
      by false q f rest = let r = rest f in record { there = inr r.there; passes = r.passes }

  -- a list with an item has a first one
  pub first_at : (xs : List X) (k : ℕ) (x : X) → slice_get xs k ≡ Some x → (y : X) × (slice_get xs 0 ≡ Some y)
  first_at [] k x e = absurd (cc)
  first_at (y ∷ ys) k x e = (y, refl)
