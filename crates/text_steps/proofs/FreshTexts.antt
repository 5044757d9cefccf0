-- A backquote or a letter and a number may stand for a mark.
use Rattle.std.proofs.Common.{◌≡◌, ℕ, ◌<◌, ◌≤◌, ◌^◌, refl, sym, ap, ◌∙◌, List, [], ◌∷◌, Bool, true, false, Some, None, arith}
use Rattle.std.specs.Prelude.{nat_eq, nat_le, ◌&&◌, ◌||◌, if◌then◌else◌}
use Rattle.std.specs.List.{list_all, onto_first}
use Rattle.std.proofs.lemmas.Bool.{and_parts, leb-true, eqb-true, false≢true}
use Rattle.token_model.specs.Bytes.{is_digit, is_letter, is_word}
use Rattle.scope_model.specs.declared.local.ControlForm.TheVariants.{NoControl}
use Rattle.scope_model.specs.SpecialNames.{is_pseudo_variable, control_form}
use Rattle.text_model.specs.Literals.{is_identifier, ends_as_keyword, is_keyword, is_keyword_row}
use Rattle.text_model.specs.Pieces.{keywords_of, is_colon}
use Rattle.pattern_model.specs.Words.{text_keywords}
use Rattle.certified_model.specs.Marks.{Text, Mark, plain, is_unary_mark}
use Rattle.text_steps.specs.MarkTexts.{MayStandFor}

abbrev AreDigits : Text → Type 0
AreDigits ds = list_all is_digit ds ≡ true

word : (b : ℕ) → is_digit b ≡ true → is_word b ≡ true
word b h = by (is_letter b) (is_digit b) h
  where
    by : (x y : Bool) → y ≡ true → (x || y) ≡ true
    by true y h = refl
    by false y h = h

no_colon : (b : ℕ) → is_digit b ≡ true → is_colon b ≡ false
no_colon b h = by (is_colon b) refl
  where
    by : (x : Bool) → is_colon b ≡ x → x ≡ false
    by false e = refl
    by true e =
        let parts = and_parts (nat_le 48 b) (nat_le b 57) h in
        let high = leb-true b 57 parts.1 in
        let colon : b ≡ 58 = eqb-true b 58 e in
        absurd (omega (arith, high, colon))

words : (ds : Text) → AreDigits ds → list_all is_word ds ≡ true
words [] h = refl
words (b ∷ ds) h = let parts = and_parts (is_digit b) (list_all is_digit ds) h in (λ i. word b parts.0 i && words ds parts.1 i)

no_end : (ds : Text) → AreDigits ds → ends_as_keyword ds ≡ false
no_end [] h = refl
no_end (b ∷ []) h = no_colon b (and_parts (is_digit b) true h).0
no_end (b ∷ (c ∷ ds)) h = let parts = and_parts (is_digit b) (list_all is_digit (c ∷ ds)) h in (λ i. word b parts.0 i && no_end (c ∷ ds) parts.1 i)

-- a byte that is no colon before digits
one_row : (a : ℕ) (ds : Text) → is_colon a ≡ false → AreDigits ds → keywords_of (a ∷ ds) ≡ (a ∷ ds) ∷ []
one_row a [] e h = ap (λ (x : Bool). if x then (a ∷ []) ∷ [] else onto_first a []) e
one_row a (b ∷ ds) e h =
    let parts = and_parts (is_digit b) (list_all is_digit ds) h in
    ap (λ (x : Bool). if x then (a ∷ []) ∷ keywords_of (b ∷ ds) else onto_first a (keywords_of (b ∷ ds))) e ∙ ap (onto_first a) (one_row b ds (no_colon b parts.0) parts.1)

no_keywords : (a : ℕ) (ds : Text) → is_colon a ≡ false → AreDigits ds → is_keyword (a ∷ ds) ≡ false → text_keywords (a ∷ ds) ≡ None
no_keywords a ds e h k =
    let row : is_keyword_row (a ∷ ds) ≡ false = ap (list_all is_keyword) (one_row a ds e h) ∙ ap (λ (x : Bool). x && true) k in
    ap (λ (x : Bool). if x then Some (keywords_of (a ∷ ds)) else None) row

-- behind a backquote
pub quoted_pseudo : (ds : Text) → is_pseudo_variable (96 ∷ ds) ≡ false
unfolding is_pseudo_variable
quoted_pseudo ds = refl

pub quoted_form : (ds : Text) → control_form (96 ∷ ds) ≡ NoControl
unfolding control_form
quoted_form ds = refl

pub quoted_unary : (ds : Text) → is_identifier (96 ∷ ds) ≡ false
quoted_unary ds = refl

pub quoted_keywords : (ds : Text) → AreDigits ds → text_keywords (96 ∷ ds) ≡ None
quoted_keywords ds h = no_keywords 96 ds refl h refl

-- behind a letter
pub lettered_pseudo : (ds : Text) → is_pseudo_variable (117 ∷ ds) ≡ false
unfolding is_pseudo_variable
lettered_pseudo ds = refl

pub lettered_form : (ds : Text) → control_form (117 ∷ ds) ≡ NoControl
unfolding control_form
lettered_form ds = refl

pub lettered_unary : (ds : Text) → AreDigits ds → is_identifier (117 ∷ ds) ≡ true
lettered_unary ds h = words ds h

pub lettered_keywords : (ds : Text) → AreDigits ds → text_keywords (117 ∷ ds) ≡ None
lettered_keywords ds h = no_keywords 117 ds refl h (no_end ds h)

-- so each may stand for a mark
pub lettered : (ds : Text) (m : Mark) → list_all is_digit ds ≡ true → is_unary_mark m ≡ true → ((n : Text) → m ≡ plain n → ⊥) → MayStandFor (117 ∷ ds, m)
lettered ds m h u n = record {
  no_name = n;
  is_pseudo = lettered_pseudo ds;
  form = lettered_form ds;
  is_unary = lettered_unary ds h ∙ sym u;
  keywords = lettered_keywords ds h;
}

pub quoted : (ds : Text) (m : Mark) → list_all is_digit ds ≡ true → is_unary_mark m ≡ false → ((n : Text) → m ≡ plain n → ⊥) → MayStandFor (96 ∷ ds, m)
quoted ds m h u n = record {
  no_name = n;
  is_pseudo = quoted_pseudo ds;
  form = quoted_form ds;
  is_unary = quoted_unary ds ∙ sym u;
  keywords = quoted_keywords ds h;
}
