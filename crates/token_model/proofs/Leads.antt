-- The kind of a token is told by its first two bytes, but for identifiers and keywords.
use Rattle.std.proofs.Common.{◌≡◌, ◌≢◌, ℕ, ◌+◌, ◌⊎◌, inl, inr, Bool, true, false, List, get_or, refl, sym, ◌∙◌, ap, arith}
use Rattle.std.proofs.lemmas.List.{get_or_past}
use Rattle.std.proofs.lemmas.Bool.{false≢true}
use Rattle.std.proofs.lemmas.Bool.Decides.{nat_tests}
use Rattle.std.specs.Prelude.{◌==◌, if◌then◌else◌}
use Rattle.token_model.specs.Bytes.{is_digit, is_letter, is_binary}
use Rattle.token_model.specs.Tokens.{IsToken, IsKeywordRow, Last, More, IsSymbolName, Name, Keywords, Selector, Stroke, Quoted}
use Rattle.token_model.specs.declared.kind.Dialect.{Dialect}
use Rattle.token_model.specs.declared.kind.TokenKind.{TokenKind}
use Rattle.token_model.specs.declared.kind.TokenKind.TheVariants.{Identifier, Keyword, Binary, Bar, Assign, Colon, Semicolon, Period, Caret, Open, Close, BlockOpen, BlockClose, BraceOpen, BraceClose, ArrayOpen, BytesOpen, String, Comment, Character, Symbol, Numeral, End}

-- the kind that a byte begins alone, and End where it begins none
abbrev pub mark_of : ℕ → TokenKind
mark_of b =
    if b == 124 then Bar else (if b == 95 then Assign else (if b == 59 then Semicolon else (if b == 46 then Period else (if b == 94 then Caret else (if b == 40 then Open else (if b == 41 then Close else (if b == 91 then BlockOpen else (if b == 93 then BlockClose else (if b == 123 then BraceOpen else (if b == 125 then BraceClose else (if b == 39 then String else (if b == 34 then Comment else (if b == 36 then Character else End)))))))))))))

-- the kind that two bytes begin, with Identifier for keywords too
abbrev pub lead : ℕ → ℕ → TokenKind
lead b c =
    if is_letter b then Identifier else (if is_digit b then Numeral else (if is_binary b then Binary else (if b == 58 then (if c == 61 then Assign else Colon) else (if b == 35 then (if c == 40 then ArrayOpen else (if c == 91 then BytesOpen else Symbol)) else mark_of b))))

-- a digit is no letter
digit-letter : (b : ℕ) → is_digit b ≡ true → is_letter b ≡ false
digit-letter b h = grind (arith, nat_tests)

-- a binary character is no letter
binary-letter : (b : ℕ) → is_binary b ≡ true → is_letter b ≡ false
binary-letter b h = grind (arith, nat_tests)

-- a binary character is no digit
binary-digit : (b : ℕ) → is_binary b ≡ true → is_digit b ≡ false
binary-digit b h = grind (arith, nat_tests)

-- a byte in the class is no byte out of it
pub other_byte : (p : ℕ → Bool) (b n : ℕ) → p b ≡ true → p n ≡ false → b ≢ n
other_byte p b n h none e = false≢true (sym none ∙ ap p (sym e) ∙ h)

-- a letter begins a word
pub lead-letter : (b c : ℕ) → is_letter b ≡ true → lead b c ≡ Identifier
lead-letter b c h = rw h refl

-- a digit begins a numeral
pub lead-digit : (b c : ℕ) → is_digit b ≡ true → lead b c ≡ Numeral
lead-digit b c h = rw (digit-letter b h, h) refl

-- a binary character begins a binary selector
pub lead-binary : (b c : ℕ) → is_binary b ≡ true → lead b c ≡ Binary
lead-binary b c h = rw (binary-letter b h, binary-digit b h, h) refl

-- a byte that is known begins what its code does
pub lead-byte : (n b c : ℕ) → b ≡ n → lead b c ≡ lead n c
lead-byte n b c e = ap (λ x. lead x c) e

-- a colon begins itself where no = follows
pub lead-colon : (c : ℕ) → c ≢ 61 → lead 58 c ≡ Colon
lead-colon c h = grind (arith, nat_tests)

-- # begins a symbol where no opening follows
pub lead-symbol : (c : ℕ) → c ≢ 40 → c ≢ 91 → lead 35 c ≡ Symbol
lead-symbol c h k = grind (arith, nat_tests)

-- a row of keywords begins with a letter
pub IsKeywordRow-letter : (t : List ℕ) (i j : ℕ) → IsKeywordRow t i j → is_letter (get_or t i 0) ≡ true
IsKeywordRow-letter t i j (Last _ _ word end) = word.name.0
IsKeywordRow-letter t i j (More _ _ _ word row) = word.name.0

-- a letter behind # begins a symbol
letter_symbol : (c : ℕ) → is_letter c ≡ true → lead 35 c ≡ Symbol
letter_symbol c h = lead-symbol c (other_byte is_letter c 40 h refl) (other_byte is_letter c 91 h refl)

-- # and a symbol's name begin a symbol
pub lead_of_symbol : (t : List ℕ) (i j : ℕ) → IsSymbolName t i j → lead 35 (get_or t i 0) ≡ Symbol
lead_of_symbol t i j (Name h) = letter_symbol (get_or t i 0) h.0.0
lead_of_symbol t i j (Keywords h) = letter_symbol (get_or t i 0) (IsKeywordRow-letter t i j h)
lead_of_symbol t i j (Selector h) =
    lead-symbol (get_or t i 0) (other_byte is_binary (get_or t i 0) 40 h.0 refl) (other_byte is_binary (get_or t i 0) 91 h.0 refl)
lead_of_symbol t i j (Stroke h) = ap (λ c. lead 35 c) h.0
lead_of_symbol t i j (Quoted h) = ap (λ c. lead 35 c) h.opens

-- the kind, with Identifier for keywords too
abbrev pub normal : TokenKind → TokenKind
normal Keyword = Identifier
normal k = k

-- the first two bytes of a token begin its kind
pub lead_of_token : (d : Dialect) (k : TokenKind) (t : List ℕ) (i j : ℕ) → IsToken d k t i j → lead (get_or t i 0) (get_or t (i + 1) 0) ≡ normal k
lead_of_token d Identifier t i j h = lead-letter (get_or t i 0) (get_or t (i + 1) 0) h.0.0
lead_of_token d Keyword t i j h = lead-letter (get_or t i 0) (get_or t (i + 1) 0) h.name.0
lead_of_token d Binary t i j h = lead-binary (get_or t i 0) (get_or t (i + 1) 0) h.0
lead_of_token d Bar t i j h = lead-byte 124 (get_or t i 0) (get_or t (i + 1) 0) h.0
lead_of_token d Assign t i j (inl h) = lead-byte 58 (get_or t i 0) (get_or t (i + 1) 0) h.0 ∙ ap (λ c. lead 58 c) h.1
lead_of_token d Assign t i j (inr h) = lead-byte 95 (get_or t i 0) (get_or t (i + 1) 0) h.0
lead_of_token d Colon t i j h = lead-byte 58 (get_or t i 0) (get_or t (i + 1) 0) h.0.0 ∙ lead-colon (get_or t (i + 1) 0) h.0.1
lead_of_token d Semicolon t i j h = lead-byte 59 (get_or t i 0) (get_or t (i + 1) 0) h.0
lead_of_token d Period t i j h = lead-byte 46 (get_or t i 0) (get_or t (i + 1) 0) h.0
lead_of_token d Caret t i j h = lead-byte 94 (get_or t i 0) (get_or t (i + 1) 0) h.0
lead_of_token d Open t i j h = lead-byte 40 (get_or t i 0) (get_or t (i + 1) 0) h.0
lead_of_token d Close t i j h = lead-byte 41 (get_or t i 0) (get_or t (i + 1) 0) h.0
lead_of_token d BlockOpen t i j h = lead-byte 91 (get_or t i 0) (get_or t (i + 1) 0) h.0
lead_of_token d BlockClose t i j h = lead-byte 93 (get_or t i 0) (get_or t (i + 1) 0) h.0
lead_of_token d BraceOpen t i j h = lead-byte 123 (get_or t i 0) (get_or t (i + 1) 0) h.1.0
lead_of_token d BraceClose t i j h = lead-byte 125 (get_or t i 0) (get_or t (i + 1) 0) h.1.0
lead_of_token d ArrayOpen t i j h = lead-byte 35 (get_or t i 0) (get_or t (i + 1) 0) h.0 ∙ ap (λ c. lead 35 c) h.1
lead_of_token d BytesOpen t i j h = lead-byte 35 (get_or t i 0) (get_or t (i + 1) 0) h.0 ∙ ap (λ c. lead 35 c) h.1
lead_of_token d String t i j h = lead-byte 39 (get_or t i 0) (get_or t (i + 1) 0) h.opens
lead_of_token d Comment t i j h = lead-byte 34 (get_or t i 0) (get_or t (i + 1) 0) h.opens
lead_of_token d Character t i j h = lead-byte 36 (get_or t i 0) (get_or t (i + 1) 0) h.0
lead_of_token d Symbol t i j h = lead-byte 35 (get_or t i 0) (get_or t (i + 1) 0) h.0 ∙ lead_of_symbol t (i + 1) j h.1
lead_of_token d Numeral t i j h = lead-digit (get_or t i 0) (get_or t (i + 1) 0) h.digits.0
lead_of_token d End t i j h =
    lead-byte 0 (get_or t i 0) (get_or t (i + 1) 0) (get_or_past t i 0 (omega arith)) ∙ ap (λ c. lead 0 c) (get_or_past t (i + 1) 0 (omega arith))

-- a kind is its own normal form, or it is that of keywords
normal-cases : (k : TokenKind) → (normal k ≡ k) ⊎ (k ≡ Keyword)
normal-cases Keyword = inr refl
normal-cases k = inl refl

-- two tokens with one lead have one kind, or both are words
pub same_normal : (k m : TokenKind) → normal k ≡ normal m → (k ≡ m) ⊎ ((normal k ≡ Identifier) × (normal m ≡ Identifier))
same_normal k m e = elim (normal-cases k) [
  | inl a ↦ elim (normal-cases m) [
    | inl b ↦ inl (cc)
    | inr b ↦ let n : normal m ≡ Identifier = ap normal b in inr (e ∙ n, n)
  ]
  | inr a ↦ let n : normal k ≡ Identifier = ap normal a in inr (n, sym e ∙ n)
]

-- a word is an identifier or a keyword
pub word_kind : (k : TokenKind) → normal k ≡ Identifier → (k ≡ Identifier) ⊎ (k ≡ Keyword)
word_kind k e = elim (normal-cases k) [ inl a ↦ inl (sym a ∙ e) | inr a ↦ inr a ]
