-- Texts that begin with a letter.
use Rattle.std.proofs.Common.{◌≡◌, ◌≢◌, ℕ, Bool, true, false, true≢false, [], ◌∷◌, ◌++◌, refl, sym, ap, subst, ◌∙◌, arith, ◌+◌}
use Rattle.std.specs.Prelude.{◌&&◌, if◌then◌else◌}
use Rattle.std.proofs.lemmas.Bool.Decides.{nat_tests}
use Rattle.rb_base.specs.Doubling.{doubled, BeginsOtherwise}
use Rattle.token_model.specs.Bytes.{is_letter}
use Rattle.chunk_format.specs.Blank.{is_blank, blank_len, HasNoLeadingBlank}
use Rattle.chunk_format.proofs.Doubles.{doubled-other}
use Rattle.text_model.specs.Literals.{is_identifier}
use Rattle.file_model.specs.Filing.{Text}

-- the text begins with a letter
pub record Starts (s : Text) : Type 0 where
  pub first : ℕ
  pub rest : Text
  pub is : s ≡ first ∷ rest
  pub letter : is_letter first ≡ true

-- both pass
pub and_first : (a b : Bool) → (a && b) ≡ true → a ≡ true
and_first true b e = refl
and_first false b e = absurd (true≢false (sym e))

-- an identifier does
pub word_starts : (n : Text) → is_identifier n ≡ true → Starts n
word_starts [] e = absurd (true≢false (sym e))
word_starts (b ∷ s) e = record { first = b; rest = s; is = refl; letter = and_first (is_letter b) _ e }

-- and so does what follows one
pub starts_append : (s t : Text) → Starts s → Starts (s ++ t)
starts_append s t h = record { first = h.first; rest = h.rest ++ t; is = ap (λ x. x ++ t) h.is; letter = h.letter }

-- a letter is another byte than one that is none
other_byte : (b n : ℕ) → is_letter b ≡ true → is_letter n ≡ false → b ≢ n
other_byte b n is_so is_none e = true≢false (sym is_so ∙ ap is_letter e ∙ is_none)

-- a letter is not the mark
not_mark : (b : ℕ) → is_letter b ≡ true → b ≢ 33
not_mark b is_so = other_byte b 33 is_so refl

-- nor a blank
not_blank : (b : ℕ) → is_letter b ≡ true → is_blank b ≡ false
not_blank b is_so = grind (arith, nat_tests)

-- such a text begins with no blank
pub starts_no_blank : (s : Text) → Starts s → HasNoLeadingBlank s
starts_no_blank s h = ap blank_len h.is ∙ ap (λ (y : Bool). if y then 1 + blank_len h.rest else 0) (not_blank h.first h.letter)

-- it begins the same when its marks are doubled
pub starts_doubled : (s : Text) → Starts s → Starts (doubled 33 s)
starts_doubled s h = record {
  first = h.first;
  rest = doubled 33 h.rest;
  is = ap (doubled 33) h.is ∙ doubled-other 33 h.first h.rest (not_mark h.first h.letter);
  letter = h.letter;
}

-- it does not begin with the mark
pub starts_otherwise : (s : Text) → Starts s → BeginsOtherwise 33 s
starts_otherwise s h = subst (BeginsOtherwise 33) (sym h.is) (not_mark h.first h.letter)

-- it is not empty
pub starts_some : (s : Text) → Starts s → s ≢ []
starts_some s h e = let whole : h.first ∷ h.rest ≡ [] = sym h.is ∙ e in cc
