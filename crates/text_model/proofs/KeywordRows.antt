-- Rows of keywords, read byte by byte.
use Rattle.std.proofs.Common.{◌≡◌, refl, ap, sym, subst, ◌∙◌, inl, inr, ℕ, Bool, true, false, ◌&&◌, if◌then◌else◌, List, [], ◌∷◌}
use Rattle.std.proofs.lemmas.Bool.{cases_Bool, eqb-true}
use Rattle.std.specs.List.{list_all, onto_first}
use Rattle.token_model.specs.Bytes.{is_letter, is_word}
use Rattle.text_model.specs.Pieces.{is_colon, keywords_of}
use Rattle.text_model.specs.Literals.{ends_as_keyword, is_keyword}

-- Whether these are keywords to the end; the flag says that the first of them begins here.
abbrev pub are_keywords : Bool → List ℕ → Bool
are_keywords begins [] = begins
are_keywords true (b ∷ s) = is_letter b && are_keywords false s
are_keywords false (b ∷ s) = if is_colon b then are_keywords true s else is_word b && are_keywords false s

-- whether the pieces are the rest of a keyword and then keywords
abbrev go_on : List (List ℕ) → Bool
go_on [] = false
go_on (k ∷ ks) = ends_as_keyword k && list_all is_keyword ks

-- the order in which tests are joined
and-assoc : (x y z : Bool) → ((x && y) && z) ≡ (x && (y && z))
and-assoc true y z = refl
and-assoc false y z = refl

and-false : (x : Bool) → (x && false) ≡ false
and-false true = refl
and-false false = refl

-- a colon is no letter
letter-colon : (b : ℕ) → is_colon b ≡ true → is_letter b ≡ false
letter-colon b h = let P : ℕ → Type 0 = λ n. is_letter n ≡ false in subst P (sym (eqb-true b 58 h)) refl

-- a byte in front of the rest of a keyword
go_on-onto : (b : ℕ) (ks : List (List ℕ)) → is_colon b ≡ false → go_on (onto_first b ks) ≡ (is_word b && go_on ks)
go_on-onto b [] h = rw h (sym (and-false (is_word b)))
go_on-onto b ([] ∷ ks) h = rw h (sym (and-false (is_word b)))
go_on-onto b ((c ∷ k) ∷ ks) h = and-assoc (is_word b) (ends_as_keyword (c ∷ k)) (list_all is_keyword ks)

-- a byte in front of keywords
row-onto : (b : ℕ) (ks : List (List ℕ)) → list_all is_keyword (onto_first b ks) ≡ (is_letter b && go_on ks)
row-onto b [] = and-assoc (is_letter b) false true
row-onto b (k ∷ ks) = and-assoc (is_letter b) (ends_as_keyword k) (list_all is_keyword ks)

mutual
  -- pieces are keywords where their bytes are
  pub keywords_row : (s : List ℕ) → list_all is_keyword (keywords_of s) ≡ are_keywords true s
  keywords_row [] = refl
  keywords_row (b ∷ s) =
      elim (cases_Bool (is_colon b)) [
        | inl h ↦ rw (h, letter-colon b h) refl
        | inr h ↦ rw h (row-onto b (keywords_of s) ∙ ap (λ v. is_letter b && v) (keywords_rest s))
      ]

  keywords_rest : (s : List ℕ) → go_on (keywords_of s) ≡ are_keywords false s
  keywords_rest [] = refl
  keywords_rest (b ∷ s) =
      elim (cases_Bool (is_colon b)) [ inl h ↦ rw (h, h) (keywords_row s) | inr h ↦ rw h (go_on-onto b (keywords_of s) h ∙ ap (λ v. is_word b && v) (keywords_rest s)) ]
