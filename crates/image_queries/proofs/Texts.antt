-- Texts of items, one behind the other.
use Rattle.std.proofs.Common.{◌≡◌, ℕ, zero, suc, ◌+◌, ◌<◌, ◌≤◌, List, [], ◌∷◌, ◌++◌, length, drop, get_or, slice_get, Some, append_assoc, refl, sym, ap, subst, ◌∙◌, arith}
use Rattle.std.proofs.lemmas.List.{append-nil, drop_all}
use Rattle.image_queries.specs.Parts.{AreTexts}

-- the item at a place
pub item_at : {X : Type 0} (xs : List X) (i : ℕ) (x : X) → i < length xs → x ≡ get_or xs i x → slice_get xs i ≡ Some x
item_at [] i x l e = absurd (omega arith)
item_at (y ∷ ys) zero x l e = ap Some (sym e)
item_at (y ∷ ys) (suc i) x l e = item_at ys i x (omega arith) e

-- what stands from a place on where an item is
drop-item : {X : Type 0} (xs : List X) (i : ℕ) (x : X) → slice_get xs i ≡ Some x → drop i xs ≡ x ∷ drop (suc i) xs
drop-item [] i x e = absurd (cc)
drop-item (y ∷ ys) zero x e = let same : y ≡ x = cc in ap (λ z. z ∷ ys) same
drop-item (y ∷ ys) (suc i) x e = drop-item ys i x e

module _ {X : Type 0} (P : ℕ → X → List ℕ → Type 0) (items : List X) (i : ℕ) (text : List ℕ) (so_far : (rest : List ℕ) → AreTexts P i (drop i items) rest → AreTexts P 0 items (text ++ rest)) where
  -- one more item
  pub text_more : (x : X) (lines after : List ℕ) → slice_get items i ≡ Some x → P i x lines → after ≡ text ++ lines
      → (rest : List ℕ) → AreTexts P (i + 1) (drop (i + 1) items) rest → AreTexts P 0 items (after ++ rest)
  text_more x lines after there told grown rest others =
      let next : suc i ≡ i + 1 = omega arith in
      let behind : drop i items ≡ x ∷ drop (i + 1) items = drop-item items i x there ∙ ap (λ (n : ℕ). x ∷ drop n items) next in
      subst (AreTexts P 0 items) (sym (append_assoc text lines rest) ∙ ap (λ (t : List ℕ). t ++ rest) (sym grown))
      (so_far (lines ++ rest) (subst (λ (xs : List X). AreTexts P i xs (lines ++ rest)) (sym behind) (lines, rest, told, others, refl)))

  -- no more items
  pub texts_end : length items ≤ i → AreTexts P 0 items text
  texts_end over =
      subst (AreTexts P 0 items) (append-nil text) (so_far [] (subst (λ (xs : List X). AreTexts P i xs []) (sym (drop_all i items over)) refl))
