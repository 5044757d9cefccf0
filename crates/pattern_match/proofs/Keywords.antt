-- A selector cut into its keywords, one by one.
use Rattle.std.proofs.Common.{◌≡◌, ℕ, zero, suc, ◌+◌, ◌<◌, ◌≤◌, Bool, true, false, List, [], ◌∷◌, ◌++◌, length, take, drop, refl, sym, ap, ◌∙◌, inl, inr, true≢false, arith, Some, None, append-nil, append_assoc}
use Rattle.std.specs.Prelude.{◌&&◌, ltb, cond, nat_eq}
use Rattle.std.specs.List.{list_all, onto_first, position_or_len, position}
use Rattle.std.proofs.lemmas.Bool.{cases_Bool, and_from, ltb-true, ltb-false, eqb-true}
use Rattle.token_model.specs.Bytes.{is_letter, is_word}
use Rattle.text_model.specs.Pieces.{is_colon, keywords_of}
use Rattle.text_model.specs.Literals.{is_identifier, ends_as_keyword, is_keyword}
use Rattle.pattern_model.specs.Words.{text_keywords}

-- where the first colon stands
abbrev pub colon_at : List ℕ → ℕ
colon_at s = position_or_len is_colon s

and_false : (b : Bool) → (b && false) ≡ false
and_false true = refl
and_false false = refl

-- the first byte is a colon exactly where the first colon stands there
here : (b : ℕ) (s : List ℕ) → 0 ≡ colon_at (b ∷ s) → is_colon b ≡ true
here b s e = elim (cases_Bool (is_colon b)) [ inl h ↦ h | inr h ↦ (let f : 0 ≡ 1 + colon_at s = e ∙ rw h refl in absurd (omega (arith, f))) ]

later : (b : ℕ) (s : List ℕ) (n : ℕ) → suc n ≡ colon_at (b ∷ s) → (is_colon b ≡ false) × (n ≡ colon_at s)
later b s n e =
    elim (cases_Bool (is_colon b)) [
      | inl h ↦ (let f : suc n ≡ 0 = e ∙ rw h refl in absurd (omega (arith, f)))
      | inr h ↦ (let f : suc n ≡ 1 + colon_at s = e ∙ rw h refl in (h, omega (arith, f)))
    ]

-- the first keyword ends with the first colon
pub first_cut : (s : List ℕ) (n : ℕ) → n ≡ colon_at s → n < length s → keywords_of s ≡ take (suc n) s ∷ keywords_of (drop (suc n) s)
first_cut [] n e h = absurd (omega arith)
first_cut (b ∷ s) zero e h = rw (here b s e) refl
first_cut (b ∷ s) (suc n) e h = let l = later b s n e in rw (l.0) (ap (onto_first b) (first_cut s n l.1 (omega arith)))

-- it is a keyword where an identifier stands before the colon
ends_cut : (s : List ℕ) (n : ℕ) → n ≡ colon_at s → n < length s → ends_as_keyword (take (suc n) s) ≡ list_all is_word (take n s)
ends_cut [] n e h = absurd (omega arith)
ends_cut (c ∷ s) zero e h = here c s e
ends_cut (c ∷ []) (suc n) e h = absurd (omega arith)
ends_cut (c ∷ d ∷ s) (suc n) e h = ap (λ (x : Bool). is_word c && x) (ends_cut (d ∷ s) n (later c (d ∷ s) n e).1 (omega arith))

pub keyword_cut : (s : List ℕ) (n : ℕ) → n ≡ colon_at s → n < length s → is_keyword (take (suc n) s) ≡ is_identifier (take n s)
keyword_cut [] n e h = absurd (omega arith)
keyword_cut (b ∷ s) zero e h = and_false (is_letter b)
keyword_cut (b ∷ s) (suc n) e h = ap (λ (x : Bool). is_letter b && x) (ends_cut s n (later b s n e).1 (omega arith))

-- what has no colon is one piece, and no keyword
without : (b : ℕ) (s : List ℕ) → length (b ∷ s) ≤ colon_at (b ∷ s) → (is_colon b ≡ false) × (length s ≤ colon_at s)
without b s h =
    elim (cases_Bool (is_colon b)) [
      | inl t ↦ (let f : colon_at (b ∷ s) ≡ 0 = rw t refl in absurd (omega (arith, f)))
      | inr t ↦ (let f : colon_at (b ∷ s) ≡ 1 + colon_at s = rw t refl in (t, omega (arith, f)))
    ]

pub one_piece : (b : ℕ) (s : List ℕ) → length (b ∷ s) ≤ colon_at (b ∷ s) → keywords_of (b ∷ s) ≡ (b ∷ s) ∷ []
one_piece b [] h = rw ((without b [] h).0) refl
one_piece b (c ∷ s) h = let l = without b (c ∷ s) h in rw (l.0) (ap (onto_first b) (one_piece c s l.1))

no_end : (s : List ℕ) → length s ≤ colon_at s → ends_as_keyword s ≡ false
no_end [] h = refl
no_end (c ∷ []) h = (without c [] h).0
no_end (c ∷ d ∷ s) h = ap (λ (x : Bool). is_word c && x) (no_end (d ∷ s) (without c (d ∷ s) h).1) ∙ and_false (is_word c)

pub no_keyword : (b : ℕ) (s : List ℕ) → length (b ∷ s) ≤ colon_at (b ∷ s) → is_keyword (b ∷ s) ≡ false
no_keyword b s h = ap (λ (x : Bool). is_letter b && x) (no_end s (without b s h).1) ∙ and_false (is_letter b)

-- a test of all items of two lists
pub all_both : {X : Type 0} (p : X → Bool) (xs ys : List X) → list_all p (xs ++ ys) ≡ (list_all p xs && list_all p ys)
all_both p [] ys = refl
all_both p (x ∷ xs) ys = by (p x) (all_both p xs ys)
  where
    by : (b : Bool) → list_all p (xs ++ ys) ≡ (list_all p xs && list_all p ys) → (b && list_all p (xs ++ ys)) ≡ ((b && list_all p xs) && list_all p ys)
    by true h = h
    by false h = refl

-- a text whose pieces are keywords, and one that has another piece
nothing : (b : ℕ) (s : List ℕ) → keywords_of (b ∷ s) ≡ [] → ⊥
nothing b s e = elim (cases_Bool (is_colon b)) [ inl h ↦ (let f : ((b ∷ []) ∷ keywords_of s) ≡ [] = sym (rw h refl) ∙ e in let bad : ⊥ = cc in bad) | inr h ↦ by (keywords_of s) (sym (rw h refl) ∙ e) ]
  where
    by : (ks : List (List ℕ)) → onto_first b ks ≡ [] → ⊥
    by [] f = let bad : ⊥ = cc in bad
    by (k ∷ ks) f = let bad : ⊥ = cc in bad

pub row_of : (t : List ℕ) (k : List ℕ) (ks : List (List ℕ)) → keywords_of t ≡ k ∷ ks → list_all is_keyword (k ∷ ks) ≡ true → text_keywords t ≡ Some (k ∷ ks)
row_of [] k ks e all = let bad : ⊥ = cc in absurd bad
row_of (b ∷ s) k ks e all = rw (ap (list_all is_keyword) e ∙ all) (ap (λ (x : List (List ℕ)). Some x) e)

pub no_row : (t : List ℕ) (ks : List (List ℕ)) → keywords_of t ≡ ks → list_all is_keyword ks ≡ false → text_keywords t ≡ None
no_row [] ks e all = refl
no_row (b ∷ s) ks e all = rw (ap (list_all is_keyword) e ∙ all) refl

pub nothing_row : (t : List ℕ) → keywords_of t ≡ [] → text_keywords t ≡ None
nothing_row [] e = refl
nothing_row (b ∷ s) e = absurd (nothing b s e)

next : (n : ℕ) → n + 1 ≡ suc n
next n = omega arith

not_none : (n : ℕ) → nat_eq n 0 ≡ false → 0 < n
not_none zero e = let bad : ⊥ = true≢false e in absurd bad
not_none (suc n) e = omega arith

is_none : (n : ℕ) → nat_eq n 0 ≡ true → n ≡ 0
is_none n e = eqb-true n 0 e

-- where a colon stands, and where none does
pub colon_found : (s : List ℕ) (n : ℕ) → Some n ≡ position is_colon s → (n ≡ colon_at s) × (n < length s)
colon_found s n e = by (ltb (colon_at s) (length s)) refl e
  where
    by : (b : Bool) → ltb (colon_at s) (length s) ≡ b → Some n ≡ cond b (Some (colon_at s)) None → (n ≡ colon_at s) × (n < length s)
    by true t f = let same : n ≡ colon_at s = cc in (same, (let lt : colon_at s < length s = ltb-true (colon_at s) (length s) t in omega (arith, lt, same)))
    by false t f = let bad : ⊥ = cc in absurd bad

colon_missed : (s : List ℕ) → None ≡ position is_colon s → length s ≤ colon_at s
colon_missed s e = by (ltb (colon_at s) (length s)) refl e
  where
    by : (b : Bool) → ltb (colon_at s) (length s) ≡ b → None ≡ cond b (Some (colon_at s)) None → length s ≤ colon_at s
    by true t f = let bad : ⊥ = cc in absurd bad
    by false t f = ltb-false (colon_at s) (length s) t

module _ (t rest : List ℕ) (ks : List (List ℕ)) (cut : ks ++ keywords_of rest ≡ keywords_of t) where
  -- one more keyword is cut off
  pub more_cut : (n : ℕ) → Some n ≡ position is_colon rest → (front back : List ℕ) → front ≡ take (n + 1) rest → back ≡ drop (n + 1) rest
      → (ls : List (List ℕ)) → ls ≡ ks ++ front ∷ [] → ls ++ keywords_of back ≡ keywords_of t
  more_cut n e front back f b ls more =
      let at = colon_found rest n e in
      ap (λ (xs : List (List ℕ)). xs ++ keywords_of back) more ∙ append_assoc ks (front ∷ []) (keywords_of back)
      ∙ ap (λ (xs : List (List ℕ)). ks ++ xs) ((λ i. (f ∙ ap (λ k. take k rest) (next n)) i ∷ keywords_of ((b ∙ ap (λ k. drop k rest) (next n)) i)) ∙ sym (first_cut rest n at.0 at.1)) ∙ cut

  pub more_keywords : (n : ℕ) → Some n ≡ position is_colon rest → (front : List ℕ) → front ≡ take (n + 1) rest → is_identifier (take n rest) ≡ true
      → (ls : List (List ℕ)) → ls ≡ ks ++ front ∷ [] → list_all is_keyword ks ≡ true → list_all is_keyword ls ≡ true
  more_keywords n e front f is ls more all =
      let at = colon_found rest n e in
      let one : is_keyword front ≡ true = ap is_keyword (f ∙ ap (λ k. take k rest) (next n)) ∙ keyword_cut rest n at.0 at.1 ∙ is in
      ap (list_all is_keyword) more ∙ all_both is_keyword ks (front ∷ []) ∙ and_from _ _ all (and_from _ _ one refl)

  -- what is cut off is no keyword
  pub stops : (n : ℕ) → Some n ≡ position is_colon rest → is_identifier (take n rest) ≡ false → None ≡ text_keywords t
  stops n e isnt =
      let at = colon_found rest n e in
      sym (no_row t (ks ++ keywords_of rest) (sym cut)
      (all_both is_keyword ks (keywords_of rest)
      ∙ ap (λ (b : Bool). list_all is_keyword ks && b) (ap (list_all is_keyword) (first_cut rest n at.0 at.1) ∙ ap (λ (b : Bool). b && list_all is_keyword (keywords_of (drop (suc n) rest))) (keyword_cut rest n at.0 at.1 ∙ isnt))
      ∙ and_false (list_all is_keyword ks)))

  -- all is cut
  all_cut : length rest ≡ 0 → ks ≡ keywords_of t
  all_cut e = by rest e cut
    where
      by : (s : List ℕ) → length s ≡ 0 → ks ++ keywords_of s ≡ keywords_of t → ks ≡ keywords_of t
      by [] h f = sym (append-nil ks) ∙ f
      by (b ∷ s) h f = absurd (omega (arith, h))

  pub ends_row : nat_eq (length rest) 0 ≡ true → nat_eq (length ks) 0 ≡ false → list_all is_keyword ks ≡ true → Some ks ≡ text_keywords t
  ends_row z some all = by ks refl (not_none (length ks) some)
    where
      by : (ls : List (List ℕ)) → ls ≡ ks → 0 < length ls → Some ks ≡ text_keywords t
      by [] f h = absurd (omega (arith, h))
      by (k ∷ ls) f h = ap (λ (x : List (List ℕ)). Some x) (sym f) ∙ sym (row_of t k ls (sym (all_cut (is_none (length rest) z)) ∙ sym f) (ap (list_all is_keyword) f ∙ all))

  pub ends_empty : nat_eq (length rest) 0 ≡ true → nat_eq (length ks) 0 ≡ true → None ≡ text_keywords t
  ends_empty z none = by ks refl (is_none (length ks) none)
    where
      by : (ls : List (List ℕ)) → ls ≡ ks → length ls ≡ 0 → None ≡ text_keywords t
      by [] f h = sym (nothing_row t (sym (all_cut (is_none (length rest) z)) ∙ sym f))
      by (k ∷ ls) f h = absurd (omega (arith, h))

  -- what is left has no colon
  pub ends_open : None ≡ position is_colon rest → nat_eq (length rest) 0 ≡ false → None ≡ text_keywords t
  ends_open e some = by rest refl (not_none (length rest) some)
    where
      by : (s : List ℕ) → s ≡ rest → 0 < length s → None ≡ text_keywords t
      by [] f h = absurd (omega (arith, h))
      by (b ∷ s) f h =
          let none : length (b ∷ s) ≤ colon_at (b ∷ s) = colon_missed (b ∷ s) (e ∙ ap (position is_colon) (sym f)) in
          sym (no_row t (ks ++ keywords_of rest) (sym cut)
          (all_both is_keyword ks (keywords_of rest)
          ∙ ap (λ (x : Bool). list_all is_keyword ks && x) (ap (λ (x : List ℕ). list_all is_keyword (keywords_of x)) (sym f) ∙ ap (list_all is_keyword) (one_piece b s none) ∙ ap (λ (x : Bool). x && true) (no_keyword b s none))
          ∙ and_false (list_all is_keyword ks)))
