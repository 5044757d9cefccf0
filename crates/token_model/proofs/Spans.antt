-- A token lies inside the text, and has a byte unless it is the end.
use Rattle.std.proofs.Common.{◌≡◌, ◌≢◌, ℕ, ◌+◌, ◌<◌, ◌≤◌, ◌⊎◌, inl, inr, Bool, false, List, length, refl, arith}
use Rattle.token_model.specs.Bytes.{is_digit, is_letter, is_word, is_binary, is_second, is_radix_digit, Passes, IsRun}
use Rattle.token_model.specs.Tokens.{IsByte, IsBytePair, IsToken, IsName, IsKeyword, IsBinary, IsString, IsComment, IsKeywordRow, Last, More, IsSymbolName, Name, Keywords, Selector, Stroke, Quoted, IsMantissa, Radix, Fraction, Plain, HasExponent, IsExponent, Scaled, Unscaled, IsNumeral}
use Rattle.token_model.specs.declared.kind.Dialect.{Dialect}
use Rattle.token_model.specs.declared.kind.TokenKind.{TokenKind}
use Rattle.token_model.specs.declared.kind.TokenKind.TheVariants.{Identifier, Keyword, Binary, Bar, Assign, Colon, Semicolon, Period, Caret, Open, Close, BlockOpen, BlockClose, BraceOpen, BraceClose, ArrayOpen, BytesOpen, String, Comment, Character, Symbol, Numeral, End}
use Rattle.token_model.proofs.RunLemmas.{IsRun-inside, Passes-inside, Has-inside}

-- the bytes from i up to j are some, and in the text
pub record IsSpan (t : List ℕ) (i j : ℕ) : Type 0 where
  pub some : i < j
  pub inside : j ≤ length t

-- one byte lies inside the text
byte_span : (b : ℕ) (t : List ℕ) (i j : ℕ) → 0 < b → IsByte b t i j → IsSpan t i j
byte_span b t i j p h = let l = Has-inside t i b p h.0 in record { some = omega arith; inside = omega arith }

-- two bytes lie inside the text
pair_span : (b c : ℕ) (t : List ℕ) (i j : ℕ) → 0 < c → IsBytePair b c t i j → IsSpan t i j
pair_span b c t i j p h = let l = Has-inside t (i + 1) c p h.1 in record { some = omega arith; inside = omega arith }

-- a first byte and a run
run_span : (p q : ℕ → Bool) (t : List ℕ) (i j : ℕ) → p 0 ≡ false → q 0 ≡ false → Passes p t i → IsRun q t (i + 1) j → IsSpan t i j
run_span p q t i j e f h r =
    let l = Passes-inside p t i e h in
    let m = IsRun-inside q t (i + 1) j f (omega arith) r in
    record { some = omega (arith, r.order); inside = m }

-- a name lies inside the text
pub IsName-span : (t : List ℕ) (i j : ℕ) → IsName t i j → IsSpan t i j
IsName-span t i j h = run_span is_letter is_word t i j refl refl h.0 h.1

-- a keyword lies inside the text
pub IsKeyword-span : (t : List ℕ) (i j : ℕ) → IsKeyword t i j → IsSpan t i j
IsKeyword-span t i j h =
    let l = Has-inside t h.colon 58 (omega arith) h.has_colon.0 in
    record { some = omega (arith, IsName-span t i h.colon h.name, h.end); inside = omega (arith, h.end) }

-- a binary selector lies inside the text
pub IsBinary-span : (t : List ℕ) (i j : ℕ) → IsBinary t i j → IsSpan t i j
IsBinary-span t i j (b, inl h) =
    let l = Passes-inside is_second t (i + 1) refl h.0 in record { some = omega arith; inside = omega arith }
IsBinary-span t i j (b, inr h) = let l = Passes-inside is_binary t i refl b in record { some = omega arith; inside = omega arith }

-- a string lies inside the text
pub IsString-span : (t : List ℕ) (i j : ℕ) → IsString t i j → IsSpan t i j
IsString-span t i j h =
    let l = Has-inside t h.close 39 (omega arith) h.closes in
    record { some = omega (arith, h.order, h.end); inside = omega (arith, h.end) }

-- a comment lies inside the text
pub IsComment-span : (t : List ℕ) (i j : ℕ) → IsComment t i j → IsSpan t i j
IsComment-span t i j h =
    let l = Has-inside t h.close 34 (omega arith) h.closes in
    record { some = omega (arith, h.order, h.end); inside = omega (arith, h.end) }

-- a row of keywords lies inside the text
row_span : (t : List ℕ) (i j : ℕ) → IsKeywordRow t i j → IsSpan t i j
row_span t i j (Last _ _ h last) = IsKeyword-span t i j h
row_span t i j (More _ n _ h row) =
    let a = IsKeyword-span t i n h in
    let b = row_span t n j row in
    record { some = omega (arith, a.some, b.some); inside = b.inside }

-- a symbol's name lies inside the text
pub IsSymbolName-span : (t : List ℕ) (i j : ℕ) → IsSymbolName t i j → IsSpan t i j
IsSymbolName-span t i j (Name h) = IsName-span t i j h.0
IsSymbolName-span t i j (Keywords h) = row_span t i j h
IsSymbolName-span t i j (Selector h) = IsBinary-span t i j h
IsSymbolName-span t i j (Stroke h) = byte_span 124 t i j (omega arith) h
IsSymbolName-span t i j (Quoted h) = IsString-span t i j h

-- what stands behind the first digits lies inside the text
mantissa_bounds : (t : List ℕ) (i n j : ℕ) → n ≤ length t → IsMantissa t i n j → (n ≤ j) × (j ≤ length t)
mantissa_bounds t i n j le (Radix h r b) =
    let l = Has-inside t n 114 (omega arith) h.0 in
    (omega (arith, r.order), IsRun-inside is_radix_digit t (n + 1) j refl (omega arith) r)
mantissa_bounds t i n j le (Fraction h r) =
    let l = Has-inside t n 46 (omega arith) h.0 in
    (omega (arith, r.order), IsRun-inside is_digit t (n + 1) j refl (omega arith) r)
mantissa_bounds t i n j le (Plain _ _ e) = (omega arith, omega arith)

-- an exponent has its digits behind its e
exponent_order : (t : List ℕ) (i k : ℕ) → HasExponent t i k → i ≤ k
exponent_order t i k (h, inl e, d) = omega arith
exponent_order t i k (h, inr e, d) = omega (arith, e.1)

-- an exponent lies inside the text
exponent_bounds : (t : List ℕ) (i j : ℕ) → i ≤ length t → IsExponent t i j → (i ≤ j) × (j ≤ length t)
exponent_bounds t i j le (Scaled k h r) =
    let l = Passes-inside is_digit t k refl h.2 in
    let o = exponent_order t i k h in
    (omega (arith, r.order), IsRun-inside is_digit t k j refl (omega arith) r)
exponent_bounds t i j le (Unscaled _ e) = (omega arith, omega arith)

-- a numeral lies inside the text
pub IsNumeral-span : (t : List ℕ) (i j : ℕ) → IsNumeral t i j → IsSpan t i j
IsNumeral-span t i j h =
    let a = run_span is_digit is_digit t i h.whole refl refl h.digits.0 h.digits.1 in
    let b = mantissa_bounds t i h.whole h.mantissa a.inside h.part in
    let c = exponent_bounds t h.mantissa j b.1 h.exponent in
    record { some = omega (arith, a.some, b.0, c.0); inside = c.1 }

-- a token is the end, or it is some bytes of the text
pub IsToken-cases : (d : Dialect) (kind : TokenKind) (t : List ℕ) (i j : ℕ) → IsToken d kind t i j → ((kind ≡ End) × (i ≡ length t) × (j ≡ i)) ⊎ IsSpan t i j
IsToken-cases d Identifier t i j h = inr (IsName-span t i j h.0)
IsToken-cases d Keyword t i j h = inr (IsKeyword-span t i j h)
IsToken-cases d Binary t i j h = inr (IsBinary-span t i j h)
IsToken-cases d Bar t i j h = inr (byte_span 124 t i j (omega arith) h)
IsToken-cases d Assign t i j (inl h) = inr (pair_span 58 61 t i j (omega arith) h)
IsToken-cases d Assign t i j (inr h) = inr (byte_span 95 t i j (omega arith) h)
IsToken-cases d Colon t i j h = inr (byte_span 58 t i j (omega arith) (h.0.0, h.1))
IsToken-cases d Semicolon t i j h = inr (byte_span 59 t i j (omega arith) h)
IsToken-cases d Period t i j h = inr (byte_span 46 t i j (omega arith) h)
IsToken-cases d Caret t i j h = inr (byte_span 94 t i j (omega arith) h)
IsToken-cases d Open t i j h = inr (byte_span 40 t i j (omega arith) h)
IsToken-cases d Close t i j h = inr (byte_span 41 t i j (omega arith) h)
IsToken-cases d BlockOpen t i j h = inr (byte_span 91 t i j (omega arith) h)
IsToken-cases d BlockClose t i j h = inr (byte_span 93 t i j (omega arith) h)
IsToken-cases d BraceOpen t i j h = inr (byte_span 123 t i j (omega arith) h.1)
IsToken-cases d BraceClose t i j h = inr (byte_span 125 t i j (omega arith) h.1)
IsToken-cases d ArrayOpen t i j h = inr (pair_span 35 40 t i j (omega arith) h)
IsToken-cases d BytesOpen t i j h = inr (pair_span 35 91 t i j (omega arith) h)
IsToken-cases d String t i j h = inr (IsString-span t i j h)
IsToken-cases d Comment t i j h = inr (IsComment-span t i j h)
IsToken-cases d Character t i j h = inr (record { some = omega (arith, h.2); inside = omega (arith, h.1, h.2) })
IsToken-cases d Symbol t i j h =
    let s = IsSymbolName-span t (i + 1) j h.1 in inr (record { some = omega (arith, s.some); inside = s.inside })
IsToken-cases d Numeral t i j h = inr (IsNumeral-span t i j h)
IsToken-cases d End t i j h = inl (refl, h.0, h.1)

-- a token lies inside the text
pub IsToken-inside : (d : Dialect) (kind : TokenKind) (t : List ℕ) (i j : ℕ) → IsToken d kind t i j → (i ≤ j) × (j ≤ length t)
IsToken-inside d kind t i j h = elim (IsToken-cases d kind t i j h) [
  | inl (e, p, q) ↦ (omega arith, omega arith)
  | inr s ↦ (omega (arith, s.some), s.inside)
]

-- a token but the end has a byte
pub IsToken-some : (d : Dialect) (kind : TokenKind) (t : List ℕ) (i j : ℕ) → IsToken d kind t i j → kind ≢ End → i < j
IsToken-some d kind t i j h other = elim (IsToken-cases d kind t i j h) [
  | inl (e, p, q) ↦ absurd (other e)
  | inr s ↦ s.some
]
