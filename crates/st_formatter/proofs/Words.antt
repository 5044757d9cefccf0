-- The keywords of a selector, counted, and cut off from the last to the first.
use Rattle.std.proofs.Common.{◌≡◌, refl, sym, ap, ◌∙◌, inl, inr, ℕ, zero, suc, ◌+◌, ◌<◌, ◌≤◌, Bool, true, false, if◌then◌else◌, List, [], ◌∷◌, ◌++◌, length, get_or, take, drop, length-append, ne_eqb, arith}
use Rattle.std.proofs.lemmas.Bool.{cases_Bool}
use Rattle.std.proofs.lemmas.List.{drop_more, drop_all, take-take, length-take, length-take-le}
use Rattle.std.proofs.Math.Seq.{take-append_seam}
use Rattle.std.specs.List.{onto_first}
use Rattle.text_model.specs.Pieces.{is_colon, keywords_of}
use Rattle.st_formatter.specs.Turns.{items_at}

-- How many keywords these bytes end; the flag says that the first of them has begun.
abbrev pub count_from : Bool → List ℕ → ℕ
count_from begun [] = if begun then 1 else 0
count_from begun (b ∷ s) = if is_colon b then suc (count_from false s) else count_from true s

-- a byte in front of a keyword that has begun makes no other
length-onto_first : (b c : ℕ) (ks : List (List ℕ)) → length (onto_first b (onto_first c ks)) ≡ length (onto_first c ks)
length-onto_first b c [] = refl
length-onto_first b c (k ∷ ks) = refl

mutual
  -- the keywords of a selector are counted so
  pub length-keywords_of : (s : List ℕ) → length (keywords_of s) ≡ count_from false s
  length-keywords_of [] = refl
  length-keywords_of (b ∷ s) =
      elim (cases_Bool (is_colon b)) [ inl h ↦ rw h (ap suc (length-keywords_of s)) | inr h ↦ rw h (length-begun b s) ]

  length-begun : (b : ℕ) (s : List ℕ) → length (onto_first b (keywords_of s)) ≡ count_from true s
  length-begun b [] = refl
  length-begun b (c ∷ s) =
      elim (cases_Bool (is_colon c)) [
        | inl h ↦ rw h (ap suc (length-keywords_of s))
        | inr h ↦ rw h (length-onto_first b c (keywords_of s) ∙ length-begun c s)
      ]

-- a colon ends a keyword, and another byte goes on with it
pub count_from-colon : (s : List ℕ) (i : ℕ) (begun : Bool) → i < length s → get_or s i 0 ≡ 58 → count_from begun (drop i s) ≡ suc (count_from false (drop (i + 1) s))
count_from-colon s i begun h e = rw (drop_more s i 0 h, e) refl

pub count_from-other : (s : List ℕ) (i : ℕ) (begun : Bool) → i < length s → (get_or s i 0 ≡ 58 → ⊥) → count_from begun (drop i s) ≡ count_from true (drop (i + 1) s)
count_from-other s i begun h e = let n = ne_eqb (get_or s i 0) 58 e in rw (drop_more s i 0 h, n) refl

-- at the end a keyword that has begun counts too
pub count_from-end : (s : List ℕ) (i : ℕ) (begun : Bool) → length s ≤ i → count_from begun (drop i s) ≡ (if begun then 1 else 0)
count_from-end s i begun h = rw (drop_all i s h) refl

-- there is a keyword where there is a byte
keywords_of-some : (b : ℕ) (s : List ℕ) → 0 < length (keywords_of (b ∷ s))
keywords_of-some b s =
    elim (cases_Bool (is_colon b)) [ inl h ↦ rw h (omega arith) | inr h ↦ rw h (onto b (keywords_of s)) ]
  where
    onto : (c : ℕ) (ks : List (List ℕ)) → 0 < length (onto_first c ks)
    onto c [] = omega arith
    onto c (k ∷ ks) = omega arith

-- and there is a byte where there is a keyword
pub bytes-some : (s : List ℕ) → 0 < length (keywords_of s) → 0 < length s
bytes-some [] h = absurd (omega arith)
bytes-some (b ∷ s) h = omega arith

-- a byte goes to the first of some keywords
onto_first-append : (b : ℕ) (ks ls : List (List ℕ)) → 0 < length ks → onto_first b (ks ++ ls) ≡ onto_first b ks ++ ls
onto_first-append b [] ls h = absurd (omega arith)
onto_first-append b (k ∷ ks) ls h = refl

-- nor makes another where there are some
length-onto_some : (b : ℕ) (ks : List (List ℕ)) → 0 < length ks → length (onto_first b ks) ≡ length ks
length-onto_some b [] h = absurd (omega arith)
length-onto_some b (k ∷ ks) h = refl

-- a selector is cut behind a colon
pub keywords_of-cut : (s : List ℕ) (i : ℕ) → i < length s → is_colon (get_or s i 0) ≡ true → keywords_of s ≡ keywords_of (take (suc i) s) ++ keywords_of (drop (suc i) s)
keywords_of-cut [] i h e = absurd (omega arith)
keywords_of-cut (b ∷ s) zero h e = rw e refl
keywords_of-cut (b ∷ []) (suc i) h e = absurd (omega arith)
keywords_of-cut (b ∷ c ∷ s) (suc i) h e =
    let rest = keywords_of-cut (c ∷ s) i (omega arith) e in
    elim (cases_Bool (is_colon b)) [
      | inl f ↦ rw f (ap (λ ks. (b ∷ []) ∷ ks) rest)
      | inr f ↦ rw f (ap (onto_first b) rest ∙ onto_first-append b (keywords_of (c ∷ take i s)) (keywords_of (drop i s)) (keywords_of-some c (take i s)))
    ]

-- a byte alone is one keyword
pub keywords_of-byte : (b : ℕ) → keywords_of (b ∷ []) ≡ (b ∷ []) ∷ []
keywords_of-byte b = elim (cases_Bool (is_colon b)) [ inl h ↦ rw h refl | inr h ↦ rw h refl ]

-- one keyword is all of the selector
pub only_keyword : (s : List ℕ) → length (keywords_of s) ≡ 1 → keywords_of s ≡ s ∷ []
only_keyword [] h = absurd (omega arith)
only_keyword (b ∷ []) h = keywords_of-byte b
only_keyword (b ∷ c ∷ s) h =
    let some = keywords_of-some c s in
    elim (cases_Bool (is_colon b)) [
      | inl f ↦ let two = rw f at h in absurd (omega (arith, two, some))
      | inr f ↦
          let one = rw f at h in
          rw f (ap (onto_first b) (only_keyword (c ∷ s) (sym (length-onto_some b (keywords_of (c ∷ s)) some) ∙ one)))
    ]

-- the last byte is one keyword
pub keyword-last : (s : List ℕ) (i : ℕ) → suc i ≡ length s → keywords_of (drop i s) ≡ drop i s ∷ []
keyword-last [] i h = absurd (omega arith)
keyword-last (b ∷ []) zero h = keywords_of-byte b
keyword-last (b ∷ c ∷ s) zero h = absurd (omega arith)
keyword-last (b ∷ s) (suc i) h = keyword-last s i (omega arith)

-- the last of some items
items_at-last : (ls : List (List ℕ)) (k : List ℕ) → items_at (ls ++ k ∷ []) (length ls) ≡ k ∷ []
items_at-last [] k = refl
items_at-last (l ∷ ls) k = items_at-last ls k

pub last_item : (ks ls : List (List ℕ)) (k : List ℕ) (i : ℕ) → ks ≡ ls ++ k ∷ [] → length ks ≡ suc i → (items_at ks i ≡ k ∷ []) × (ls ≡ take i ks)
last_item ks ls k i e h =
    let n : i ≡ length ls = omega (arith, ap length e, length-append ls (k ∷ []), h) in rw (e, n) (items_at-last ls k, sym (take-append_seam ls (k ∷ [])))

-- the items behind do not count
pub items_at-take : (ks : List (List ℕ)) (i : ℕ) → items_at (take (suc i) ks) i ≡ items_at ks i
items_at-take [] zero = refl
items_at-take [] (suc i) = refl
items_at-take (k ∷ ks) zero = refl
items_at-take (k ∷ ks) (suc i) = items_at-take ks i

-- what is left of some items when those behind a number were cut off
pub items-left : (ks ls : List (List ℕ)) (i : ℕ) → ls ≡ take (suc i) ks → (items_at ls i ≡ items_at ks i) × (take i ls ≡ take i ks)
items-left ks ls i e = rw e (items_at-take ks i, take-take i (suc i) ks (omega arith))

-- and how many these are
pub length-left : (ks ls : List (List ℕ)) (i n : ℕ) → ls ≡ take (suc i) ks → n ≡ length ks → (i < n → length ls ≡ suc i) × (n ≤ i → length ls ≤ i)
length-left ks ls i n e m = rw (e, m) (λ h. length-take-le (suc i) ks (omega arith), λ h. omega (arith, length-take (suc i) ks))

pub ruleset count_rules = (length-keywords_of, count_from-colon, count_from-other, count_from-end)
