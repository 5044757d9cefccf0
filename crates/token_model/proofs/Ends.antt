-- A token of one kind ends at one place alone.
use Rattle.std.proofs.Common.{◌≡◌, ℕ, ◌+◌, ◌≤◌, inl, inr, List, get_or, refl, sym, ◌∙◌, ap, subst, arith}
use Rattle.std.proofs.lemmas.Bool.{false≢true, cases_lt}
use Rattle.token_model.specs.Bytes.{is_digit, is_word, is_radix_digit, Has, IsRun}
use Rattle.token_model.specs.Tokens.{IsToken, IsName, HasColon, IsIdentifier, IsKeyword, IsBinary, IsString, IsComment, IsKeywordRow, Last, More, IsSymbolName, Name, Keywords, Selector, Stroke, Quoted, IsMantissa, Radix, Fraction, Plain, HasExponent, IsExponent, Scaled, Unscaled, IsNumeral}
use Rattle.token_model.specs.declared.kind.Dialect.{Dialect}
use Rattle.token_model.specs.declared.kind.TokenKind.{TokenKind}
use Rattle.token_model.specs.declared.kind.TokenKind.TheVariants.{Identifier, Keyword, Binary, Bar, Assign, Colon, Semicolon, Period, Caret, Open, Close, BlockOpen, BlockClose, BraceOpen, BraceClose, ArrayOpen, BytesOpen, String, Comment, Character, Symbol, Numeral, End}
use Rattle.token_model.proofs.RunLemmas.{IsRun-same, Has-inside}
use Rattle.token_model.proofs.Quotes.{closes_once}
use Rattle.token_model.proofs.Leads.{lead, other_byte, lead-letter, lead-binary, lead-byte, IsKeywordRow-letter}

-- a name ends at one place
pub IsName-same : (t : List ℕ) (i j k : ℕ) → IsName t i j → IsName t i k → j ≡ k
IsName-same t i j k h g = IsRun-same is_word t (i + 1) j k h.1 g.1

-- an identifier is no keyword
pub identifier_or_keyword : (t : List ℕ) (i j k : ℕ) → IsIdentifier t i j → IsKeyword t i k → ⊥
identifier_or_keyword t i j k h g = h.1 (subst (HasColon t) (IsName-same t i g.colon j g.name h.0) g.has_colon)

-- a keyword ends at one place
pub IsKeyword-same : (t : List ℕ) (i j k : ℕ) → IsKeyword t i j → IsKeyword t i k → j ≡ k
IsKeyword-same t i j k h g = h.end ∙ ap (λ n. n + 1) (IsName-same t i h.colon g.colon h.name g.name) ∙ sym g.end

-- a binary selector ends at one place
pub IsBinary-same : (t : List ℕ) (i j k : ℕ) → IsBinary t i j → IsBinary t i k → j ≡ k
IsBinary-same t i j k (b, inl h) (c, inl g) = h.1 ∙ sym g.1
IsBinary-same t i j k (b, inl h) (c, inr g) = absurd (false≢true (sym g.0 ∙ h.0))
IsBinary-same t i j k (b, inr h) (c, inl g) = absurd (false≢true (sym h.0 ∙ g.0))
IsBinary-same t i j k (b, inr h) (c, inr g) = h.1 ∙ sym g.1

-- no string closes before another that opens at the same quote
string_le : (t : List ℕ) (i j k : ℕ) (h : IsString t i j) (g : IsString t i k) → g.close ≤ h.close
string_le t i j k h g = elim (cases_lt h.close g.close) [
  | inl lt ↦ absurd (h.alone (closes_once 39 t (i + 1) h.close g.close (omega (arith, h.order)) lt (omega (arith, Has-inside t g.close 39 (omega arith) g.closes)) h.inside g.inside h.closes))
  | inr le ↦ le
]

-- a string ends at one place
pub IsString-same : (t : List ℕ) (i j k : ℕ) → IsString t i j → IsString t i k → j ≡ k
IsString-same t i j k h g = omega (arith, string_le t i j k h g, string_le t i k j g h)

-- no comment closes before another that opens at the same quote
comment_le : (t : List ℕ) (i j k : ℕ) (h : IsComment t i j) (g : IsComment t i k) → g.close ≤ h.close
comment_le t i j k h g = elim (cases_lt h.close g.close) [
  | inl lt ↦ absurd (g.inside h.close h.order lt h.closes)
  | inr le ↦ le
]

-- a comment ends at one place
pub IsComment-same : (t : List ℕ) (i j k : ℕ) → IsComment t i j → IsComment t i k → j ≡ k
IsComment-same t i j k h g = omega (arith, comment_le t i j k h g, comment_le t i k j g h)

-- a row begins with a keyword
row_first : (t : List ℕ) (i j : ℕ) → IsKeywordRow t i j → (k : ℕ) × IsKeyword t i k
row_first t i j (Last _ _ h last) = (j, h)
row_first t i j (More _ n _ h row) = (n, h)

-- where the rows go on from one place, they end at one
row_same : (t : List ℕ) (i j k : ℕ) → IsKeywordRow t i j → (m : ℕ) → m ≡ i → IsKeywordRow t m k → j ≡ k
row_same t i j k (Last _ _ h last) m e (Last _ _ g _) = IsKeyword-same t i j k h (subst (λ n. IsKeyword t n k) e g)
row_same t i j k (Last _ _ h last) m e (More _ n _ g row) =
    let same : n ≡ j = IsKeyword-same t i n j (subst (λ x. IsKeyword t x n) e g) h in
    let first = row_first t n k row in
    absurd (last first.0 (subst (λ x. IsKeyword t x first.0) same first.1))
row_same t i j k (More _ n _ h row) m e (Last _ _ g last) =
    let same : n ≡ k = IsKeyword-same t i n k h (subst (λ x. IsKeyword t x k) e g) in
    let first = row_first t n j row in
    absurd (last first.0 (subst (λ x. IsKeyword t x first.0) same first.1))
row_same t i j k (More _ n _ h row) m e (More _ l _ g other) = row_same t n j k row l (IsKeyword-same t i l n (subst (λ x. IsKeyword t x l) e g) h) other

-- a digit is no r, point or e; a point is no r
pub radix_or_fraction : (t : List ℕ) (n : ℕ) → Has t n 114 → Has t n 46 → ⊥
radix_or_fraction t n h g = absurd (omega arith)

-- behind the same digits one part stands
IsMantissa-same : (t : List ℕ) (i n j k : ℕ) → IsMantissa t i n j → IsMantissa t i n k → j ≡ k
IsMantissa-same t i n j k (Radix r h b) (Radix s g c) = IsRun-same is_radix_digit t (n + 1) j k h g
IsMantissa-same t i n j k (Radix r h b) (Fraction s g) = absurd (radix_or_fraction t n r.0 s.0)
IsMantissa-same t i n j k (Radix r h b) (Plain none other e) = absurd (none r)
IsMantissa-same t i n j k (Fraction s h) (Radix r g b) = absurd (radix_or_fraction t n r.0 s.0)
IsMantissa-same t i n j k (Fraction s h) (Fraction r g) = IsRun-same is_digit t (n + 1) j k h g
IsMantissa-same t i n j k (Fraction s h) (Plain none other e) = absurd (other s)
IsMantissa-same t i n j k (Plain none other e) (Radix r g b) = absurd (none r)
IsMantissa-same t i n j k (Plain none other e) (Fraction r g) = absurd (other r)
IsMantissa-same t i n j k (Plain none other e) (Plain _ _ f) = e ∙ sym f

-- the digits of an exponent begin at one place
exponent_same : (t : List ℕ) (i k l : ℕ) → HasExponent t i k → HasExponent t i l → k ≡ l
exponent_same t i k l (h, inl e, d) (g, inl f, c) = e ∙ sym f
exponent_same t i k l (h, inl e, d) (g, inr f, c) =
    absurd (other_byte is_digit (get_or t k 0) 45 d refl (ap (λ n. get_or t n 0) e ∙ f.0))
exponent_same t i k l (h, inr e, d) (g, inl f, c) =
    absurd (other_byte is_digit (get_or t l 0) 45 c refl (ap (λ n. get_or t n 0) f ∙ e.0))
exponent_same t i k l (h, inr e, d) (g, inr f, c) = e.1 ∙ sym f.1

-- an exponent ends at one place
IsExponent-same : (t : List ℕ) (i j k : ℕ) → IsExponent t i j → IsExponent t i k → j ≡ k
IsExponent-same t i j k (Scaled n h r) (Scaled m g s) = IsRun-same is_digit t n j k r (subst (λ x. IsRun is_digit t x k) (exponent_same t i m n g h) s)
IsExponent-same t i j k (Scaled n h r) (Unscaled none e) = absurd (none n h)
IsExponent-same t i j k (Unscaled none e) (Scaled n h r) = absurd (none n h)
IsExponent-same t i j k (Unscaled none e) (Unscaled _ f) = e ∙ sym f

-- a numeral ends at one place
pub IsNumeral-same : (t : List ℕ) (i j k : ℕ) → IsNumeral t i j → IsNumeral t i k → j ≡ k
IsNumeral-same t i j k h g =
    let whole : g.whole ≡ h.whole = IsRun-same is_digit t (i + 1) g.whole h.whole g.digits.1 h.digits.1 in
    let part : g.mantissa ≡ h.mantissa = IsMantissa-same t i h.whole g.mantissa h.mantissa (subst (λ n. IsMantissa t i n g.mantissa) whole g.part) h.part in
    IsExponent-same t h.mantissa j k h.exponent (subst (λ n. IsExponent t n k) part g.exponent)

-- the kind of token that a symbol's name is, with Identifier for a row of keywords
name_kind : (t : List ℕ) (i j : ℕ) → IsSymbolName t i j → TokenKind
name_kind t i j (Name h) = Identifier
name_kind t i j (Keywords h) = Identifier
name_kind t i j (Selector h) = Binary
name_kind t i j (Stroke h) = Bar
name_kind t i j (Quoted h) = String

-- a symbol's name begins as a token of its kind does
lead_of_name : (t : List ℕ) (i j : ℕ) (h : IsSymbolName t i j) → lead (get_or t i 0) (get_or t (i + 1) 0) ≡ name_kind t i j h
unfolding name_kind
lead_of_name t i j (Name h) = lead-letter (get_or t i 0) (get_or t (i + 1) 0) h.0.0
lead_of_name t i j (Keywords h) = lead-letter (get_or t i 0) (get_or t (i + 1) 0) (IsKeywordRow-letter t i j h)
lead_of_name t i j (Selector h) = lead-binary (get_or t i 0) (get_or t (i + 1) 0) h.0
lead_of_name t i j (Stroke h) = lead-byte 124 (get_or t i 0) (get_or t (i + 1) 0) h.0
lead_of_name t i j (Quoted h) = lead-byte 39 (get_or t i 0) (get_or t (i + 1) 0) h.opens

-- an identifier begins no row of keywords
name_or_row : (t : List ℕ) (i j k : ℕ) → IsIdentifier t i j → IsKeywordRow t i k → ⊥
name_or_row t i j k h g = let first = row_first t i k g in identifier_or_keyword t i j first.0 h first.1

-- names of one kind end at one place
name_same : (t : List ℕ) (i j k : ℕ) (h : IsSymbolName t i j) (g : IsSymbolName t i k) → name_kind t i j h ≡ name_kind t i k g → j ≡ k
unfolding name_kind
name_same t i j k (Name h) (Name g) e = IsName-same t i j k h.0 g.0
name_same t i j k (Name h) (Keywords g) e = absurd (name_or_row t i j k h g)
name_same t i j k (Name h) (Selector g) e = cc
name_same t i j k (Name h) (Stroke g) e = cc
name_same t i j k (Name h) (Quoted g) e = cc
name_same t i j k (Keywords h) (Name g) e = absurd (name_or_row t i k j g h)
name_same t i j k (Keywords h) (Keywords g) e = row_same t i j k h i refl g
name_same t i j k (Keywords h) (Selector g) e = cc
name_same t i j k (Keywords h) (Stroke g) e = cc
name_same t i j k (Keywords h) (Quoted g) e = cc
name_same t i j k (Selector h) (Name g) e = cc
name_same t i j k (Selector h) (Keywords g) e = cc
name_same t i j k (Selector h) (Selector g) e = IsBinary-same t i j k h g
name_same t i j k (Selector h) (Stroke g) e = cc
name_same t i j k (Selector h) (Quoted g) e = cc
name_same t i j k (Stroke h) (Name g) e = cc
name_same t i j k (Stroke h) (Keywords g) e = cc
name_same t i j k (Stroke h) (Selector g) e = cc
name_same t i j k (Stroke h) (Stroke g) e = h.1 ∙ sym g.1
name_same t i j k (Stroke h) (Quoted g) e = cc
name_same t i j k (Quoted h) (Name g) e = cc
name_same t i j k (Quoted h) (Keywords g) e = cc
name_same t i j k (Quoted h) (Selector g) e = cc
name_same t i j k (Quoted h) (Stroke g) e = cc
name_same t i j k (Quoted h) (Quoted g) e = IsString-same t i j k h g

-- a symbol's name ends at one place
pub IsSymbolName-same : (t : List ℕ) (i j k : ℕ) → IsSymbolName t i j → IsSymbolName t i k → j ≡ k
IsSymbolName-same t i j k h g = name_same t i j k h g (sym (lead_of_name t i j h) ∙ lead_of_name t i k g)

-- tokens of one kind end at one place
pub IsToken-end_same : (d : Dialect) (kind : TokenKind) (t : List ℕ) (i j k : ℕ) → IsToken d kind t i j → IsToken d kind t i k → j ≡ k
IsToken-end_same d Identifier t i j k h g = IsName-same t i j k h.0 g.0
IsToken-end_same d Keyword t i j k h g = IsKeyword-same t i j k h g
IsToken-end_same d Binary t i j k h g = IsBinary-same t i j k h g
IsToken-end_same d Assign t i j k (inl h) (inl g) = h.2 ∙ sym g.2
IsToken-end_same d Assign t i j k (inl h) (inr g) = absurd (omega (arith, h.0, g.0))
IsToken-end_same d Assign t i j k (inr h) (inl g) = absurd (omega (arith, h.0, g.0))
IsToken-end_same d Assign t i j k (inr h) (inr g) = h.1 ∙ sym g.1
IsToken-end_same d BraceOpen t i j k h g = h.1.1 ∙ sym g.1.1
IsToken-end_same d BraceClose t i j k h g = h.1.1 ∙ sym g.1.1
IsToken-end_same d ArrayOpen t i j k h g = h.2 ∙ sym g.2
IsToken-end_same d BytesOpen t i j k h g = h.2 ∙ sym g.2
IsToken-end_same d String t i j k h g = IsString-same t i j k h g
IsToken-end_same d Comment t i j k h g = IsComment-same t i j k h g
IsToken-end_same d Character t i j k h g = h.2 ∙ sym g.2
IsToken-end_same d Symbol t i j k h g = IsSymbolName-same t (i + 1) j k h.1 g.1
IsToken-end_same d Numeral t i j k h g = IsNumeral-same t i j k h g
IsToken-end_same d Bar t i j k h g = h.1 ∙ sym g.1
IsToken-end_same d Colon t i j k h g = h.1 ∙ sym g.1
IsToken-end_same d Semicolon t i j k h g = h.1 ∙ sym g.1
IsToken-end_same d Period t i j k h g = h.1 ∙ sym g.1
IsToken-end_same d Caret t i j k h g = h.1 ∙ sym g.1
IsToken-end_same d Open t i j k h g = h.1 ∙ sym g.1
IsToken-end_same d Close t i j k h g = h.1 ∙ sym g.1
IsToken-end_same d BlockOpen t i j k h g = h.1 ∙ sym g.1
IsToken-end_same d BlockClose t i j k h g = h.1 ∙ sym g.1
IsToken-end_same d End t i j k h g = h.1 ∙ sym g.1
