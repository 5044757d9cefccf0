-- What patterns ask of names, asked of texts.
use Rattle.std.proofs.Common.{◌≡◌, refl, sym, ap, subst, ◌∙◌, ℕ, List, [], ◌∷◌, ◌++◌, Some, None}
use Rattle.std.specs.Prelude.{Bool, true, false, cond}
use Rattle.std.specs.List.{AllByRecursion, list_all, concat, onto_first}
use Rattle.std.proofs.lemmas.Bool.{false≢true, and_parts, and_from, eqb-true}
use Rattle.rb_base.proofs.NamesLemmas.{text_eq-refl}
use Rattle.token_model.specs.Bytes.{is_letter, is_word}
use Rattle.text_model.specs.Pieces.{is_colon, keywords_of}
use Rattle.text_model.specs.Literals.{ends_as_keyword, is_keyword, is_keyword_row}
use Rattle.pattern_model.specs.Words.{AreWords, text_keywords, text_pattern_words}
use Rattle.same_trees.proofs.Told.{text_told}
use Rattle.pattern_laws.proofs.SameMetas.{by_cases}

-- the pieces of a selector, joined
joined_onto : (b : ℕ) (ks : List (List ℕ)) → concat (onto_first b ks) ≡ b ∷ concat ks
joined_onto b [] = refl
joined_onto b (k ∷ ks) = refl

joined_again : (s : List ℕ) → concat (keywords_of s) ≡ s
joined_again [] = refl
joined_again (b ∷ s) = by (is_colon b) (joined_again s)
  where
    by : (t : Bool) → concat (keywords_of s) ≡ s → concat (cond t ((b ∷ []) ∷ keywords_of s) (onto_first b (keywords_of s))) ≡ b ∷ s
    by true h = ap (λ (x : List ℕ). b ∷ x) h
    by false h = joined_onto b (keywords_of s) ∙ ap (λ (x : List ℕ). b ∷ x) h

-- a letter or digit is no colon
word_no_colon : (b : ℕ) → is_word b ≡ true → is_colon b ≡ false
word_no_colon b e = by_cases (is_colon b) (λ p. absurd (false≢true (sym (ap is_word (eqb-true b 58 p)) ∙ e))) (λ p. p)

letter_no_colon : (b : ℕ) → is_letter b ≡ true → is_colon b ≡ false
letter_no_colon b e = by_cases (is_colon b) (λ p. absurd (false≢true (sym (ap is_letter (eqb-true b 58 p)) ∙ e))) (λ p. p)

-- a byte that is no colon goes to the first piece
onto : (b : ℕ) (s : List ℕ) → is_colon b ≡ false → keywords_of (b ∷ s) ≡ onto_first b (keywords_of s)
onto b s e = ap (λ (t : Bool). cond t ((b ∷ []) ∷ keywords_of s) (onto_first b (keywords_of s))) e

-- the end of a keyword is cut off
end_cut : (s r : List ℕ) → ends_as_keyword s ≡ true → keywords_of (s ++ r) ≡ s ∷ keywords_of r
end_cut [] r e = absurd (false≢true e)
end_cut (b ∷ []) r e = ap (λ (t : Bool). cond t ((b ∷ []) ∷ keywords_of r) (onto_first b (keywords_of r))) e
end_cut (b ∷ c ∷ s) r e =
    let h = and_parts (is_word b) (ends_as_keyword (c ∷ s)) e in
    onto b (c ∷ s ++ r) (word_no_colon b h.0) ∙ ap (onto_first b) (end_cut (c ∷ s) r h.1)

-- a keyword is
keyword_cut : (k r : List ℕ) → is_keyword k ≡ true → keywords_of (k ++ r) ≡ k ∷ keywords_of r
keyword_cut [] r e = absurd (false≢true e)
keyword_cut (b ∷ s) r e =
    let h = and_parts (is_letter b) (ends_as_keyword s) e in onto b (s ++ r) (letter_no_colon b h.0) ∙ ap (onto_first b) (end_cut s r h.1)

row_cut : (ks : List (List ℕ)) → AllByRecursion (λ k. is_keyword k ≡ true) ks → keywords_of (concat ks) ≡ ks
row_cut [] h = refl
row_cut (k ∷ ks) h = keyword_cut k (concat ks) h.0 ∙ ap (λ (x : List (List ℕ)). k ∷ x) (row_cut ks h.1)

row_all : (ks : List (List ℕ)) → AllByRecursion (λ k. is_keyword k ≡ true) ks → list_all is_keyword ks ≡ true
row_all [] h = refl
row_all (k ∷ ks) h = and_from _ _ h.0 (row_all ks h.1)

all_row : (ks : List (List ℕ)) → list_all is_keyword ks ≡ true → AllByRecursion (λ k. is_keyword k ≡ true) ks
all_row [] h = tt
all_row (k ∷ ks) h = let g = and_parts (is_keyword k) (list_all is_keyword ks) h in (g.0, all_row ks g.1)

row_is : (s : List ℕ) → is_keyword_row s ≡ true → list_all is_keyword (keywords_of s) ≡ true
row_is [] e = absurd (false≢true e)
row_is (b ∷ s) e = e

row_from : (s : List ℕ) → (s ≡ [] → ⊥) → list_all is_keyword (keywords_of s) ≡ true → is_keyword_row s ≡ true
row_from [] some e = absurd (some refl)
row_from (b ∷ s) some e = e

keywords_are : (s : List ℕ) (ks : List (List ℕ)) → text_keywords s ≡ Some ks → (is_keyword_row s ≡ true) × (keywords_of s ≡ ks)
keywords_are s ks e = by (is_keyword_row s) refl e
  where
    by : (b : Bool) → is_keyword_row s ≡ b → cond b (Some (keywords_of s)) None ≡ Some ks → (is_keyword_row s ≡ true) × (keywords_of s ≡ ks)
    by true p f = let same : keywords_of s ≡ ks = cc in (p, same)
    by false p f = let bad : ⊥ = cc in absurd bad

not_empty : (k r : List ℕ) → is_keyword k ≡ true → k ++ r ≡ [] → ⊥
not_empty [] r e h = false≢true e
not_empty (b ∷ s) r e h = let bad : ⊥ = cc in bad

-- texts are words
pub text_words_are : AreWords text_pattern_words concat
text_words_are = record {
  refl = text_eq-refl;
  told = text_told;
  each = λ s ks e. let h = keywords_are s ks e in subst (AllByRecursion (λ k. is_keyword k ≡ true)) h.1 (all_row (keywords_of s) (row_is s h.0));
  is_joined = λ s ks e. let h = keywords_are s ks e in ap concat (sym h.1) ∙ joined_again s;
  cut = λ k ks h.
      let pieces = row_cut (k ∷ ks) h in
      let is : is_keyword_row (k ++ concat ks) ≡ true = row_from (k ++ concat ks) (λ e. not_empty k (concat ks) h.0 e) (ap (list_all is_keyword) pieces ∙ row_all (k ∷ ks) h) in
      ap (λ (b : Bool). cond b (Some (keywords_of (k ++ concat ks))) None) is ∙ ap (λ (x : List (List ℕ)). Some x) pieces;
}
