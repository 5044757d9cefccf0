-- The keywords of a selector, counted.
use Rattle.std.proofs.Common.{◌≡◌, refl, ap, ◌∙◌, inl, inr, ℕ, suc, ◌+◌, ◌<◌, ◌≤◌, Bool, true, false, if◌then◌else◌, List, [], ◌∷◌, length, get_or, drop, ne_eqb}
use Rattle.std.proofs.lemmas.Bool.{cases_Bool}
use Rattle.std.proofs.lemmas.List.{drop_more, drop_all}
use Rattle.std.specs.List.{onto_first}
use Rattle.text_model.specs.Pieces.{is_colon, keywords_of}

-- How many keywords these bytes end; the flag says that the first of them has begun.
abbrev pub count_from : Bool → List ℕ → ℕ
count_from begun [] = if begun then 1 else 0
count_from begun (b ∷ s) = if is_colon b then suc (count_from false s) else count_from true s

-- a byte in front of a keyword that has begun makes no other
length-onto_first : (b c : ℕ) (ks : List (List ℕ)) → length (onto_first b (onto_first c ks)) ≡ length (onto_first c ks)
length-onto_first b c [] = refl
length-onto_first b c (k ∷ ks) = refl

mutual
  -- the keywords of a selector are counted so
  pub length-keywords_of : (s : List ℕ) → length (keywords_of s) ≡ count_from false s
  length-keywords_of [] = refl
  length-keywords_of (b ∷ s) =
      elim (cases_Bool (is_colon b)) [ inl h ↦ rw h (ap suc (length-keywords_of s)) | inr h ↦ rw h (length-begun b s) ]

  length-begun : (b : ℕ) (s : List ℕ) → length (onto_first b (keywords_of s)) ≡ count_from true s
  length-begun b [] = refl
  length-begun b (c ∷ s) =
      elim (cases_Bool (is_colon c)) [
        | inl h ↦ rw h (ap suc (length-keywords_of s))
        | inr h ↦ rw h (length-onto_first b c (keywords_of s) ∙ length-begun c s)
      ]

-- a colon ends a keyword, and another byte goes on with it
pub count_from-colon : (s : List ℕ) (i : ℕ) (begun : Bool) → i < length s → get_or s i 0 ≡ 58 → count_from begun (drop i s) ≡ suc (count_from false (drop (i + 1) s))
count_from-colon s i begun h e = rw (drop_more s i 0 h, e) refl

pub count_from-other : (s : List ℕ) (i : ℕ) (begun : Bool) → i < length s → (get_or s i 0 ≡ 58 → ⊥) → count_from begun (drop i s) ≡ count_from true (drop (i + 1) s)
count_from-other s i begun h e = let n = ne_eqb (get_or s i 0) 58 e in rw (drop_more s i 0 h, n) refl

-- at the end a keyword that has begun counts too
pub count_from-end : (s : List ℕ) (i : ℕ) (begun : Bool) → length s ≤ i → count_from begun (drop i s) ≡ (if begun then 1 else 0)
count_from-end s i begun h = rw (drop_all i s h) refl

pub ruleset count_rules = (length-keywords_of, count_from-colon, count_from-other, count_from-end)
