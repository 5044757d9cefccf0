-- Names at the beginning of chunks.
use Rattle.std.proofs.Common.{◌≡◌, ◌≢◌, ◌+◌, ◌||◌, Bool, true, not, cond, [], ◌∷◌, ◌++◌, refl, ap, sym, subst}
use Rattle.std.specs.List.{list_all}
use Rattle.std.proofs.lemmas.Bool.{and_parts, false≢true}
use Rattle.rb_base.specs.Doubling.{BeginsOtherwise, doubled}
use Rattle.token_model.specs.Bytes.{is_letter, is_word}
use Rattle.token_model.proofs.Leads.{other_byte}
use Rattle.chunk_format.specs.Blank.{blank_len, HasNoLeadingBlank}
use Rattle.chunk_format.proofs.Doubles.{doubled-other}
use Rattle.text_model.specs.Literals.{is_identifier, is_keyword_row, is_operator, is_selector}
use Rattle.reread_law.proofs.Bytes.{no_blank}
use Rattle.scope_model.specs.SpecialNames.{is_pseudo_variable}
use Rattle.file_model.specs.Filing.{Text}
use Rattle.file_model.specs.Words.{is_global}
use Rattle.change_file_laws.specs.Stated.{MayName}

-- a name that may be given is an identifier
pub identifier_of : (n : Text) → MayName n → is_identifier n ≡ true
identifier_of n h = (and_parts (is_identifier n) (not (is_pseudo_variable n || is_global n)) h).0

-- an identifier is a selector
pub word_selects : (n : Text) → is_identifier n ≡ true → is_selector n ≡ true
word_selects n h = ap (λ (b : Bool). b || is_keyword_row n || is_operator n) h

-- an identifier before other text begins with no blank
pub begins_no_blank : (n s : Text) → is_identifier n ≡ true → HasNoLeadingBlank (n ++ s)
begins_no_blank [] s h = absurd (false≢true h)
begins_no_blank (b ∷ w) s h =
    let letter = (and_parts (is_letter b) (list_all is_word w) h).0 in
    ap (λ (t : Bool). cond t (1 + blank_len (w ++ s)) 0) (no_blank is_letter b letter refl refl refl refl refl)

-- it is not empty
pub is_not_empty : (n s : Text) → is_identifier n ≡ true → n ++ s ≢ []
is_not_empty [] s h = absurd (false≢true h)
is_not_empty (b ∷ w) s h = λ e. cc

-- and does not begin with the mark
pub begins_otherwise : (n s u : Text) → is_identifier n ≡ true → BeginsOtherwise 33 (doubled 33 (n ++ s) ++ u)
begins_otherwise [] s u h = absurd (false≢true h)
begins_otherwise (b ∷ w) s u h =
    let other : b ≢ 33 = other_byte is_letter b 33 (and_parts (is_letter b) (list_all is_word w) h).0 refl in
    subst (λ (x : Text). BeginsOtherwise 33 (x ++ u)) (sym (doubled-other 33 b (w ++ s) other)) other
