-- Orders of numbers, each of which stands once.
use Rattle.std.proofs.Common.{◌≡◌, ◌⊎◌, inl, inr, ℕ, suc, ◌+◌, ◌<◌, ◌||◌, Bool, true, false, cond, List, [], ◌∷◌, ◌++◌, length, take, drop, get_or, Some, slice_get, refl, sym, ap, subst, ◌∙◌, true≢false, add-one}
use Rattle.std.specs.Prelude.{insert}
use Rattle.std.specs.List.{list_any}
use Rattle.std.proofs.Math.Dec.{eqb}
use Rattle.std.proofs.Math.Seq.{drop-cons}
use Rattle.std.proofs.lemmas.Bool.Decides.{eqb_tells}
use Rattle.std.proofs.lemmas.List.{take_more, take-append-drop}
use Rattle.std.proofs.lemmas.Option.{slice_get_within, get_or_from_slice_get, slice_get-get_or}
use Rattle.class_table.specs.Order.{Distinct, without}
use Rattle.class_table.specs.Valid.{IsLive}
use Rattle.class_table.proofs.Live.{eqb-refl, IsLive-first, IsLive-rest}
use Rattle.image_laws.proofs.Orders.{or_false}

-- what stands before a place, at it and behind it
pub drop-at : {X : Type 0} (xs : List X) (i : ℕ) (x : X) → slice_get xs i ≡ Some x → drop i xs ≡ x ∷ drop (i + 1) xs
drop-at xs i x e = rw add-one (drop-cons xs i x (slice_get_within xs i x e) ∙ ap (λ y. y ∷ drop (suc i) xs) (get_or_from_slice_get xs i x x e))

pub take-at : {X : Type 0} (xs : List X) (i : ℕ) (x : X) → slice_get xs i ≡ Some x → take (i + 1) xs ≡ take i xs ++ x ∷ []
take-at xs i x e = take_more xs i x (slice_get_within xs i x e) ∙ ap (λ y. take i xs ++ y ∷ []) (get_or_from_slice_get xs i x x e)

pub parts-at : {X : Type 0} (xs : List X) (i : ℕ) (x : X) → slice_get xs i ≡ Some x → xs ≡ take i xs ++ x ∷ drop (i + 1) xs
parts-at xs i x e = sym (take-append-drop i xs) ∙ ap (λ ys. take i xs ++ ys) (drop-at xs i x e)

-- what stands in one of two lists stands in both together
pub live-left : (k : ℕ) (xs ys : List ℕ) → IsLive xs k → IsLive (xs ++ ys) k
live-left k [] ys l = absurd (true≢false (sym l))
live-left k (x ∷ xs) ys l = by (eqb k x) l (live-left k xs ys)
  where
    by : (b : Bool) → (b || list_any (eqb k) xs) ≡ true → (IsLive xs k → IsLive (xs ++ ys) k) → (b || list_any (eqb k) (xs ++ ys)) ≡ true
    by true h rest = refl
    by false h rest = rest h

pub live-right : (k : ℕ) (xs ys : List ℕ) → IsLive ys k → IsLive (xs ++ ys) k
live-right k [] ys l = l
live-right k (x ∷ xs) ys l = IsLive-rest k x (xs ++ ys) (live-right k xs ys l)

-- what stands in the middle stands neither before it nor behind it
pub distinct-before : (k : ℕ) (xs ys : List ℕ) → Distinct (xs ++ k ∷ ys) → list_any (eqb k) xs ≡ false
distinct-before k [] ys d = refl
distinct-before k (x ∷ xs) ys d = by (eqb_tells k x) (distinct-before k xs ys d.1)
  where
    by : ((eqb k x ≡ true) × (k ≡ x)) ⊎ ((eqb k x ≡ false) × (k ≡ x → ⊥)) → list_any (eqb k) xs ≡ false → (eqb k x || list_any (eqb k) xs) ≡ false
    by (inl e) rest = absurd (true≢false (sym (live-right x xs (k ∷ ys) (subst (λ (j : ℕ). IsLive (j ∷ ys) x) (sym e.1) (IsLive-first x ys))) ∙ d.0))
    by (inr e) rest = ap (λ (b : Bool). b || list_any (eqb k) xs) e.0 ∙ rest

pub distinct-right : (xs ys : List ℕ) → Distinct (xs ++ ys) → Distinct ys
distinct-right [] ys d = d
distinct-right (x ∷ xs) ys d = distinct-right xs ys d.1

-- a list without what stands in the middle, and with something put in there
pub without-middle : (k : ℕ) (xs ys : List ℕ) → list_any (eqb k) xs ≡ false → without k (xs ++ k ∷ ys) ≡ xs ++ ys
without-middle k [] ys h = ap (λ (b : Bool). cond b ys (k ∷ without k ys)) (eqb-refl k)
without-middle k (x ∷ xs) ys h =
    let both = or_false (eqb k x) (list_any (eqb k) xs) h in
    ap (λ (b : Bool). cond b (xs ++ k ∷ ys) (x ∷ without k (xs ++ k ∷ ys))) both.0 ∙ ap (λ (zs : List ℕ). x ∷ zs) (without-middle k xs ys both.1)

pub insert-middle : {X : Type 0} (xs ys : List X) (x : X) → insert (xs ++ ys) (length xs) x ≡ xs ++ x ∷ ys
insert-middle [] [] x = refl
insert-middle [] (y ∷ ys) x = refl
insert-middle (z ∷ xs) ys x = ap (λ zs. z ∷ zs) (insert-middle xs ys x)

-- what stands in a list is none that does not
pub live-apart : (j k : ℕ) (xs : List ℕ) → list_any (eqb k) xs ≡ false → IsLive xs j → k ≡ j → ⊥
live-apart j k xs none l e = true≢false (sym l ∙ ap (λ (i : ℕ). list_any (eqb i) xs) (sym e) ∙ none)

-- what is read of a list at a place
pub item-at : (items order : List ℕ) (i k : ℕ) → items ≡ order → i < length items → k ≡ get_or items i k → slice_get order i ≡ Some k
item-at items order i k same less is = ap (λ (xs : List ℕ). slice_get xs i) (sym same) ∙ slice_get-get_or items i k less ∙ ap Some (sym is)
