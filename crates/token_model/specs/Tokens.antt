-- Tokens: which bytes of a text, from i up to j, are a token of which kind.
use Rattle.std.specs.Prelude.{◌≡◌, ◌≢◌, ℕ, ◌+◌, ◌<◌, ◌≤◌, ◌⊎◌, List, length, slice_index, slice_range}
use Rattle.std.specs.Char.{digit_value}
use Rattle.std.specs.Str.Parse.{digits_value}
use Rattle.rb_base.specs.Doubling.{IsPaired}
use Rattle.token_model.specs.Bytes.{is_digit, is_letter, is_word, is_binary, is_second, is_radix_digit, Has, Passes, Fails, IsRun}
use Rattle.token_model.specs.declared.kind.Dialect.{Dialect}
use Rattle.token_model.specs.declared.kind.Dialect.TheVariants.{Second}
use Rattle.token_model.specs.declared.kind.TokenKind.{TokenKind}
use Rattle.token_model.specs.declared.kind.TokenKind.TheVariants.{Identifier, Keyword, Binary, Bar, Assign, Colon, Semicolon, Period, Caret, Open, Close, BlockOpen, BlockClose, BraceOpen, BraceClose, ArrayOpen, BytesOpen, String, Comment, Character, Symbol, Numeral, End}

-- the one byte b
abbrev pub IsByte : ℕ → List ℕ → ℕ → ℕ → Type 0
IsByte b text i j = Has text i b × (j ≡ i + 1)

-- the byte b and then the byte c
abbrev pub IsBytePair : ℕ → ℕ → List ℕ → ℕ → ℕ → Type 0
IsBytePair b c text i j = Has text i b × Has text (i + 1) c × (j ≡ i + 2)

-- a letter, then letters and digits, as many as follow
abbrev pub IsName : List ℕ → ℕ → ℕ → Type 0
IsName text i j = Passes is_letter text i × IsRun is_word text (i + 1) j

-- a colon that no = follows
abbrev pub HasColon : List ℕ → ℕ → Type 0
HasColon text i = Has text i 58 × (slice_index text (i + 1) ≢ 61)

-- a name that is no keyword
abbrev pub IsIdentifier : List ℕ → ℕ → ℕ → Type 0
IsIdentifier text i j = IsName text i j × ¬ HasColon text j

-- a name and a colon that no = follows
pub record IsKeyword (text : List ℕ) (i j : ℕ) : Type 0 where
  pub colon : ℕ
  pub name : IsName text i colon
  pub has_colon : HasColon text colon
  pub end : j ≡ colon + 1

-- one or two binary characters, the second no minus sign, as many as can be
abbrev pub IsBinary : List ℕ → ℕ → ℕ → Type 0
IsBinary text i j =
    Passes is_binary text i × ((Passes is_second text (i + 1) × (j ≡ i + 2)) ⊎ (Fails is_second text (i + 1) × (j ≡ i + 1)))

-- bytes between quotes, a quote among them written twice; no quote follows the closing one
pub record IsString (text : List ℕ) (i j : ℕ) : Type 0 where
  pub close : ℕ
  pub opens : Has text i 39
  pub order : i < close
  pub inside : IsPaired 39 (slice_range text (i + 1) close)
  pub closes : Has text close 39
  pub alone : slice_index text (close + 1) ≢ 39
  pub end : j ≡ close + 1

-- bytes between double quotes, none of them a double quote
pub record IsComment (text : List ℕ) (i j : ℕ) : Type 0 where
  pub close : ℕ
  pub opens : Has text i 34
  pub order : i < close
  pub inside : (k : ℕ) → i < k → k < close → slice_index text k ≢ 34
  pub closes : Has text close 34
  pub end : j ≡ close + 1

-- $ and any one byte
abbrev pub IsCharacter : List ℕ → ℕ → ℕ → Type 0
IsCharacter text i j = Has text i 36 × (i + 1 < length text) × (j ≡ i + 2)

-- keywords joined: a row of keywords as long as can be
pub data IsKeywordRow (text : List ℕ) : ℕ → ℕ → Type 0 where
  Last : (i j : ℕ) → IsKeyword text i j → ((k : ℕ) → ¬ IsKeyword text j k) → IsKeywordRow text i j
  More : (i j k : ℕ) → IsKeyword text i j → IsKeywordRow text j k → IsKeywordRow text i k

-- what a symbol names
pub data IsSymbolName (text : List ℕ) (i j : ℕ) : Type 0 where
  Name : IsIdentifier text i j → IsSymbolName text i j
  Keywords : IsKeywordRow text i j → IsSymbolName text i j
  Selector : IsBinary text i j → IsSymbolName text i j
  Stroke : IsByte 124 text i j → IsSymbolName text i j
  Quoted : IsString text i j → IsSymbolName text i j

-- # and what the symbol names
abbrev pub IsSymbol : List ℕ → ℕ → ℕ → Type 0
IsSymbol text i j = Has text i 35 × IsSymbolName text (i + 1) j

-- one or more digits, as many as follow
abbrev pub IsDigits : List ℕ → ℕ → ℕ → Type 0
IsDigits text i j = Passes is_digit text i × IsRun is_digit text (i + 1) j

-- r and a digit of a radix
abbrev pub HasRadix : List ℕ → ℕ → Type 0
HasRadix text i = Has text i 114 × Passes is_radix_digit text (i + 1)

-- a point and a digit
abbrev pub HasFraction : List ℕ → ℕ → Type 0
HasFraction text i = Has text i 46 × Passes is_digit text (i + 1)

-- the base, from i up to r, is 2 to 36, and each digit behind r is below it
pub record IsInBase (text : List ℕ) (i r j : ℕ) : Type 0 where
  pub low : 2 ≤ digits_value 10 (slice_range text i r)
  pub high : digits_value 10 (slice_range text i r) ≤ 36
  pub below : (k : ℕ) → r < k → k < j → digit_value (slice_index text k) < digits_value 10 (slice_range text i r)

-- behind the digits from i up to n: r and the digits in that base, a point and the digits of a fraction, or nothing
pub data IsMantissa (text : List ℕ) (i n j : ℕ) : Type 0 where
  Radix : HasRadix text n → IsRun is_radix_digit text (n + 1) j → IsInBase text i n j → IsMantissa text i n j
  Fraction : HasFraction text n → IsRun is_digit text (n + 1) j → IsMantissa text i n j
  Plain : ¬ HasRadix text n → ¬ HasFraction text n → j ≡ n → IsMantissa text i n j

-- an e at i, with a minus sign or none, and the digits of the exponent from k on
abbrev pub HasExponent : List ℕ → ℕ → ℕ → Type 0
HasExponent text i k = Has text i 101 × ((k ≡ i + 1) ⊎ (Has text (i + 1) 45 × (k ≡ i + 2))) × Passes is_digit text k

-- an exponent, or nothing where none stands
pub data IsExponent (text : List ℕ) (i j : ℕ) : Type 0 where
  Scaled : (k : ℕ) → HasExponent text i k → IsRun is_digit text k j → IsExponent text i j
  Unscaled : ((k : ℕ) → ¬ HasExponent text i k) → j ≡ i → IsExponent text i j

-- digits, then a radix part or a fraction, then an exponent, each where it can be
pub record IsNumeral (text : List ℕ) (i j : ℕ) : Type 0 where
  pub whole : ℕ
  pub mantissa : ℕ
  pub digits : IsDigits text i whole
  pub part : IsMantissa text i whole mantissa
  pub exponent : IsExponent text mantissa j

-- in a dialect, the bytes of the text from i up to j are a token of the kind
abbrev pub IsToken : Dialect → TokenKind → List ℕ → ℕ → ℕ → Type 0
IsToken dialect Identifier text i j = IsIdentifier text i j
IsToken dialect Keyword text i j = IsKeyword text i j
IsToken dialect Binary text i j = IsBinary text i j
IsToken dialect Bar text i j = IsByte 124 text i j
IsToken dialect Assign text i j = IsBytePair 58 61 text i j ⊎ IsByte 95 text i j
IsToken dialect Colon text i j = HasColon text i × (j ≡ i + 1)
IsToken dialect Semicolon text i j = IsByte 59 text i j
IsToken dialect Period text i j = IsByte 46 text i j
IsToken dialect Caret text i j = IsByte 94 text i j
IsToken dialect Open text i j = IsByte 40 text i j
IsToken dialect Close text i j = IsByte 41 text i j
IsToken dialect BlockOpen text i j = IsByte 91 text i j
IsToken dialect BlockClose text i j = IsByte 93 text i j
IsToken dialect BraceOpen text i j = (dialect ≡ Second) × IsByte 123 text i j
IsToken dialect BraceClose text i j = (dialect ≡ Second) × IsByte 125 text i j
IsToken dialect ArrayOpen text i j = IsBytePair 35 40 text i j
IsToken dialect BytesOpen text i j = IsBytePair 35 91 text i j
IsToken dialect String text i j = IsString text i j
IsToken dialect Comment text i j = IsComment text i j
IsToken dialect Character text i j = IsCharacter text i j
IsToken dialect Symbol text i j = IsSymbol text i j
IsToken dialect Numeral text i j = IsNumeral text i j
IsToken dialect End text i j = (i ≡ length text) × (j ≡ i)

-- no token begins at i
abbrev pub NoToken : Dialect → List ℕ → ℕ → Type 0
NoToken dialect text i = (kind : TokenKind) (j : ℕ) → ¬ IsToken dialect kind text i j
