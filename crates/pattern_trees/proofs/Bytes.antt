-- Bytes that words and selectors do not have, and selectors cut into their pieces.
use Rattle.std.proofs.Common.{◌≡◌, ℕ, Bool, true, false, true≢false, List, [], ◌∷◌, ◌++◌, refl, sym, ap, ◌∙◌, inl, inr}
use Rattle.std.specs.Prelude.{◌&&◌, ◌||◌, ◌==◌}
use Rattle.std.specs.List.{list_any, list_all, onto_first}
use Rattle.std.proofs.lemmas.Bool.{cases_Bool, and_parts, or_cases, eqb-true}
use Rattle.token_model.specs.Bytes.{is_letter, is_word, is_binary, is_second}
use Rattle.text_model.specs.Pieces.{is_colon, keywords_of, has_colon}
use Rattle.text_model.specs.Literals.{is_identifier, ends_as_keyword, is_keyword, is_operator}
use Rattle.pattern_model.specs.Spelled.{begins, is_meta}

-- a backquote
abbrev pub is_quote : ℕ → Bool
is_quote b = b == 96

-- tests that fail
pub or_none : (a b : Bool) → a ≡ false → b ≡ false → (a || b) ≡ false
or_none true b h g = let bad : ⊥ = true≢false h in absurd bad
or_none false b h g = g

pub none_parts : (a b : Bool) → (a || b) ≡ false → (a ≡ false) × (b ≡ false)
none_parts true b h = let bad : ⊥ = true≢false h in absurd bad
none_parts false b h = (refl, h)

pub and_false : (b : Bool) → (b && false) ≡ false
and_false true = refl
and_false false = refl

-- a byte that passes a test is none that fails it
pub differs : (p : ℕ → Bool) (b c : ℕ) → p b ≡ true → p c ≡ false → (b == c) ≡ false
differs p b c h g = elim (cases_Bool (b == c)) [ inl e ↦ (let bad : ⊥ = true≢false (sym h ∙ ap p (eqb-true b c e) ∙ g) in absurd bad) | inr e ↦ e ]

-- bytes of a class, none of which is c
all_differ : (p : ℕ → Bool) (c : ℕ) → p c ≡ false → (s : List ℕ) → list_all p s ≡ true → list_any (λ b. b == c) s ≡ false
all_differ p c g [] h = refl
all_differ p c g (b ∷ s) h = let x = and_parts (p b) (list_all p s) h in or_none (b == c) (list_any (λ a. a == c) s) (differs p b c x.0 g) (all_differ p c g s x.1)

-- a byte that is no letter and no digit stands in no identifier
pub identifier_without : (c : ℕ) → is_letter c ≡ false → is_word c ≡ false → (n : List ℕ) → is_identifier n ≡ true → list_any (λ b. b == c) n ≡ false
identifier_without c g k [] h = refl
identifier_without c g k (b ∷ s) h = let x = and_parts (is_letter b) (list_all is_word s) h in or_none (b == c) (list_any (λ a. a == c) s) (differs is_letter b c x.0 g) (all_differ is_word c k s x.1)

-- nor does one begin with it
pub identifier_begins : (c : ℕ) → is_letter c ≡ false → (n : List ℕ) → is_identifier n ≡ true → begins c n ≡ false
identifier_begins c g [] h = refl
identifier_begins c g (b ∷ s) h = differs is_letter b c (and_parts (is_letter b) (list_all is_word s) h).0 g

pub keyword_begins : (c : ℕ) → is_letter c ≡ false → (s : List ℕ) → is_keyword s ≡ true → (t : List ℕ) → begins c (s ++ t) ≡ false
keyword_begins c g [] h t = let bad : ⊥ = true≢false (sym h) in absurd bad
keyword_begins c g (b ∷ s) h t = differs is_letter b c (and_parts (is_letter b) (ends_as_keyword s) h).0 g

-- a keyword is no metavariable
pub keyword_plain : (s : List ℕ) → is_keyword s ≡ true → is_meta s ≡ false
keyword_plain [] h = refl
keyword_plain (b ∷ s) h = keyword_begins 96 refl (b ∷ s) h []

-- a binary selector has no backquote
pub operator_plain : (s : List ℕ) → is_operator s ≡ true → list_any is_quote s ≡ false
operator_plain [] h = refl
operator_plain (a ∷ []) h = or_none (is_quote a) false (elim (or_cases (is_binary a) (a == 124) h) [ inl x ↦ differs is_binary a 96 x refl | inr x ↦ differs (λ b. b == 124) a 96 x refl ]) refl
operator_plain (a ∷ b ∷ []) h =
    let x = and_parts (is_binary a) (is_second b) h in
    or_none (is_quote a) (is_quote b || false) (differs is_binary a 96 x.0 refl) (or_none (is_quote b) false (differs is_second b 96 x.1 refl) refl)
operator_plain (a ∷ b ∷ c ∷ s) h = let bad : ⊥ = true≢false (sym h) in absurd bad

-- no piece of a selector without backquotes is a metavariable
onto_plain : (b : ℕ) (ks : List (List ℕ)) → is_quote b ≡ false → list_any is_meta ks ≡ false → list_any is_meta (onto_first b ks) ≡ false
onto_plain b [] h g = or_none (is_quote b) false h refl
onto_plain b (k ∷ ks) h g = or_none (is_quote b) (list_any is_meta ks) h (none_parts (is_meta k) (list_any is_meta ks) g).1

pub plain_pieces : (s : List ℕ) → list_any is_quote s ≡ false → list_any is_meta (keywords_of s) ≡ false
plain_pieces [] h = refl
plain_pieces (b ∷ s) h =
    let p = none_parts (is_quote b) (list_any is_quote s) h in
    elim (cases_Bool (is_colon b)) [ inl e ↦ rw e (or_none (is_quote b) (list_any is_meta (keywords_of s)) p.0 (plain_pieces s p.1)) | inr e ↦ rw e (onto_plain b (keywords_of s) p.0 (plain_pieces s p.1)) ]

-- the first piece of one that begins with a backquote is one
onto_meta : (b : ℕ) (ks : List (List ℕ)) → is_quote b ≡ true → list_any is_meta (onto_first b ks) ≡ true
onto_meta b [] h = rw h refl
onto_meta b (k ∷ ks) h = rw h refl

pub first_meta : (s : List ℕ) → is_meta s ≡ true → list_any is_meta (keywords_of s) ≡ true
first_meta [] h = let bad : ⊥ = true≢false (sym h) in absurd bad
first_meta (b ∷ s) h = rw (differs is_quote b 58 h refl) (onto_meta b (keywords_of s) h)

-- a text with one colon, at its end
abbrev pub EndsInColon : List ℕ → Type 0
EndsInColon [] = ⊥
EndsInColon (b ∷ []) = is_colon b ≡ true
EndsInColon (b ∷ c ∷ s) = (is_colon b ≡ false) × EndsInColon (c ∷ s)

pub colon_later : (b : ℕ) (s : List ℕ) → is_colon b ≡ false → EndsInColon s → EndsInColon (b ∷ s)
colon_later b [] h e = absurd e
colon_later b (c ∷ s) h e = (h, e)

ends_in_colon : (s : List ℕ) → ends_as_keyword s ≡ true → EndsInColon s
ends_in_colon [] h = let bad : ⊥ = true≢false (sym h) in absurd bad
ends_in_colon (b ∷ []) h = h
ends_in_colon (b ∷ c ∷ s) h = let x = and_parts (is_word b) (ends_as_keyword (c ∷ s)) h in (differs is_word b 58 x.0 refl, ends_in_colon (c ∷ s) x.1)

pub keyword_ends : (k : List ℕ) → is_keyword k ≡ true → EndsInColon k
keyword_ends [] h = let bad : ⊥ = true≢false (sym h) in absurd bad
keyword_ends (b ∷ s) h = let x = and_parts (is_letter b) (ends_as_keyword s) h in colon_later b s (differs is_letter b 58 x.0 refl) (ends_in_colon s x.1)

-- it is the first piece of what begins with it
pub cut_first : (k s : List ℕ) → EndsInColon k → keywords_of (k ++ s) ≡ k ∷ keywords_of s
cut_first [] s e = absurd e
cut_first (b ∷ []) s e = rw e refl
cut_first (b ∷ c ∷ k) s e = rw (e.0) (ap (onto_first b) (cut_first (c ∷ k) s e.1))

pub colon_first : (k s : List ℕ) → EndsInColon k → has_colon (k ++ s) ≡ true
colon_first [] s e = absurd e
colon_first (b ∷ []) s e = rw e refl
colon_first (b ∷ c ∷ k) s e = rw (e.0) (colon_first (c ∷ k) s e.1)
