-- What is found in lists.
use Rattle.std.proofs.Common.{◌≡◌, ◌⊎◌, inl, inr, ℕ, Bool, true, false, cond, find, List, [], ◌∷◌, Option, None, Some, refl, sym, ap, ◌∙◌, true≢false}
use Rattle.std.specs.List.{list_any}
use Rattle.std.specs.Option.{option_or}
use Rattle.std.proofs.Math.Dec.{eqb}
use Rattle.image_model.specs.Upwards.{first_given}
use Rattle.class_table.specs.Valid.{IsLive}
use Rattle.class_table.proofs.Live.{or_true, eqb-equal}

-- nothing is found where no test passes
pub find-never : {X : Type 0} (xs : List X) → find (λ x. false) xs ≡ None
find-never [] = refl
find-never (x ∷ xs) = find-never xs

-- where nothing is found, no live slot passes
pub find-None : (p : ℕ → Bool) (order : List ℕ) (k : ℕ) → find p order ≡ None → IsLive order k → p k ≡ false
find-None p [] k e l = absurd (true≢false (sym l))
find-None p (j ∷ js) k e l = by (p j) refl e (or_true (eqb k j) (list_any (eqb k) js) l) (find-None p js k)
  where
    by : (b : Bool) → p j ≡ b → cond b (Some j) (find p js) ≡ None → (eqb k j ≡ true) ⊎ IsLive js k → (find p js ≡ None → IsLive js k → p k ≡ false) → p k ≡ false
    by true q h which rest = absurd (cc)
    by false q h (inl same) rest = ap p (eqb-equal k j same) ∙ q
    by false q h (inr more) rest = rest h more

-- what is given first is given of one of the items
pub first_given-fact : {X Y : Type 0} (P : Y → Type 0) (give : X → Option Y) → ((x : X) (y : Y) → give x ≡ Some y → P y) → (xs : List X) (y : Y) → first_given give xs ≡ Some y → P y
first_given-fact P give h [] y e = absurd (cc)
first_given-fact P give h (x ∷ xs) y e = by (give x) refl e (first_given-fact P give h xs y)
  where
    by : (o : Option _) → give x ≡ o → option_or o (first_given give xs) ≡ Some y → (first_given give xs ≡ Some y → P y) → P y
    by None q r rest = rest r
    by (Some z) q r rest = h x y (q ∙ r)
