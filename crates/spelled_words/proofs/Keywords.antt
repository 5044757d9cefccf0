-- Rows of keywords, byte by byte.
use Rattle.std.proofs.Common.{◌≡◌, ℕ, Bool, true, false, List, [], ◌∷◌, length, refl, sym, ◌∙◌, arith}
use Rattle.std.specs.List.{list_all}
use Rattle.token_model.specs.Bytes.{is_letter, is_word}
use Rattle.text_model.specs.Pieces.{is_colon, keywords_of}
use Rattle.text_model.specs.Literals.{is_keyword}
use Rattle.text_model.proofs.KeywordRows.{are_keywords, keywords_row}

module _ (text : List ℕ) (begins : Bool) (rest : List ℕ) (so_far : are_keywords true text ≡ are_keywords begins rest) where
  row : list_all is_keyword (keywords_of text) ≡ are_keywords begins rest
  row = keywords_row text ∙ so_far

  -- no letter begins the next keyword
  pub no_letter : (b : ℕ) (others : List ℕ) → begins ≡ true → rest ≡ b ∷ others → is_letter b ≡ false → false ≡ list_all is_keyword (keywords_of text)
  no_letter b others e r h = sym (row ∙ (λ i. are_keywords (e i) (r i)) ∙ rw h refl)

  -- neither a colon nor a letter nor a digit goes on
  pub no_word : (b : ℕ) (others : List ℕ) → begins ≡ false → rest ≡ b ∷ others → is_colon b ≡ false → is_word b ≡ false → false ≡ list_all is_keyword (keywords_of text)
  no_word b others e r k h = sym (row ∙ (λ i. are_keywords (e i) (r i)) ∙ rw (k, h) refl)

  -- all is read
  pub row_ends : length rest ≡ 0 → begins ≡ list_all is_keyword (keywords_of text)
  row_ends none = sym (row ∙ by rest none)
    where
      by : (s : List ℕ) → length s ≡ 0 → are_keywords begins s ≡ begins
      by [] h = refl
      by (b ∷ s) h = absurd (omega (arith, h))
