-- By its first two bytes: whether a token begins at a place, or which fault stands there.
use Rattle.std.proofs.Common.{◌≡◌, ◌≢◌, ℕ, zero, suc, ◌+◌, ◌<◌, ◌≤◌, ◌⊎◌, inl, inr, Bool, true, false, List, [], ◌∷◌, length, get_or, Option, Some, None, refl, sym, ◌∙◌, ap, arith}
use Rattle.std.specs.Prelude.{◌==◌, if◌then◌else◌}
use Rattle.std.proofs.lemmas.Bool.{cases_lt, cases_eq, eqb-true, eqb-false}
use Rattle.token_model.specs.Bytes.{is_blank, is_digit, is_letter, is_binary, Has}
use Rattle.token_model.specs.Tokens.{IsToken}
use Rattle.token_model.specs.Faults.{HasQuote, FaultsAs, IsFault}
use Rattle.token_model.specs.TokenLists.{Piece, IsNext, HasTokens, Ended, Stopped, Further}
use Rattle.token_model.specs.declared.kind.Dialect.{Dialect}
use Rattle.token_model.specs.declared.kind.Dialect.TheVariants.{First, Second}
use Rattle.token_model.specs.declared.kind.TokenKind.{TokenKind}
use Rattle.token_model.specs.declared.kind.TokenKind.TheVariants.{Identifier, Keyword, Binary, Bar, Assign, Colon, Semicolon, Period, Caret, Open, Close, BlockOpen, BlockClose, BraceOpen, BraceClose, ArrayOpen, BytesOpen, String, Comment, Character, Symbol, Numeral, End}
use Rattle.token_model.specs.declared.fault.LexFault.{LexFault}
use Rattle.token_model.specs.declared.fault.LexFault.TheVariants.{BadByte, OpenString, OpenComment, BadNumeral}
use Rattle.token_model.proofs.RunLemmas.{IsRun-inside}
use Rattle.token_model.proofs.Leads.{lead, mark_of, normal}
use Rattle.token_model.proofs.OneToken.{NoToken-lead}
use Rattle.token_model.proofs.Spans.{IsToken-cases}
use Rattle.token_model.proofs.Exist.{run_ends, word_begins, binary_begins, string_or_not, comment_or_not, name_or_not, numeral_or_not}

-- what is known of two bytes that begin a kind; nothing is told of keywords, which no two bytes begin
abbrev pub Tells : ℕ → ℕ → TokenKind → Type 0
Tells b c Identifier = is_letter b ≡ true
Tells b c Keyword = ⊥
Tells b c Binary = is_binary b ≡ true
Tells b c Bar = b ≡ 124
Tells b c Assign = ((b ≡ 58) × (c ≡ 61)) ⊎ (b ≡ 95)
Tells b c Colon = (b ≡ 58) × (c ≢ 61)
Tells b c Semicolon = b ≡ 59
Tells b c Period = b ≡ 46
Tells b c Caret = b ≡ 94
Tells b c Open = b ≡ 40
Tells b c Close = b ≡ 41
Tells b c BlockOpen = b ≡ 91
Tells b c BlockClose = b ≡ 93
Tells b c BraceOpen = b ≡ 123
Tells b c BraceClose = b ≡ 125
Tells b c ArrayOpen = (b ≡ 35) × (c ≡ 40)
Tells b c BytesOpen = (b ≡ 35) × (c ≡ 91)
Tells b c String = b ≡ 39
Tells b c Comment = b ≡ 34
Tells b c Character = b ≡ 36
Tells b c Symbol = b ≡ 35
Tells b c Numeral = is_digit b ≡ true
Tells b c End = (is_digit b ≡ false) × (b ≢ 35) × (b ≢ 39) × (b ≢ 34)

-- what holds of both values of a choice holds of the choice
choice : (P : TokenKind → Type 0) (test : Bool) (x y : TokenKind) → (test ≡ true → P x) → (test ≡ false → P y) → P (if test then x else y)
choice P true x y h g = h refl
choice P false x y h g = g refl

-- the same of a test for a byte
byte_choice : (P : TokenKind → Type 0) (b n : ℕ) (x y : TokenKind) → (b ≡ n → P x) → (b ≢ n → P y) → P (if b == n then x else y)
byte_choice P b n x y h g = choice P (b == n) x y (λ e. h (eqb-true b n e)) (λ e. g (eqb-false b n e))

-- a byte that is a mark, or begins nothing, tells its kind
mark_tells : (b c : ℕ) → is_digit b ≡ false → b ≢ 35 → Tells b c (mark_of b)
mark_tells b c digit hash =
    let P : TokenKind → Type 0 = Tells b c in
    byte_choice P b 124 _ _ (λ e. e) (λ _. byte_choice P b 95 _ _ (λ e. inr e) (λ _. byte_choice P b 59 _ _ (λ e. e) (λ _.
    byte_choice P b 46 _ _ (λ e. e) (λ _. byte_choice P b 94 _ _ (λ e. e) (λ _. byte_choice P b 40 _ _ (λ e. e) (λ _.
    byte_choice P b 41 _ _ (λ e. e) (λ _. byte_choice P b 91 _ _ (λ e. e) (λ _. byte_choice P b 93 _ _ (λ e. e) (λ _.
    byte_choice P b 123 _ _ (λ e. e) (λ _. byte_choice P b 125 _ _ (λ e. e) (λ _. byte_choice P b 39 _ _ (λ e. e) (λ quote.
    byte_choice P b 34 _ _ (λ e. e) (λ double. byte_choice P b 36 _ _ (λ e. e) (λ _. (digit, hash, quote, double)))))))))))))))

-- two bytes tell the kind that they begin
pub lead_tells : (b c : ℕ) → Tells b c (lead b c)
lead_tells b c =
    let P : TokenKind → Type 0 = Tells b c in
    choice P (is_letter b) _ _ (λ e. e) (λ _. choice P (is_digit b) _ _ (λ e. e) (λ digit. choice P (is_binary b) _ _ (λ e. e) (λ _.
    byte_choice P b 58 _ _ (λ e. byte_choice P c 61 _ _ (λ f. inl (e, f)) (λ f. (e, f))) (λ _.
    byte_choice P b 35 _ _ (λ e. byte_choice P c 40 _ _ (λ f. (e, f)) (λ _. byte_choice P c 91 _ _ (λ f. (e, f)) (λ _. e))) (λ hash. mark_tells b c digit hash)))))

-- a token begins at i, or a fault stands there
abbrev pub Begins : Dialect → List ℕ → ℕ → Type 0
Begins d t i = ((kind : TokenKind) × (j : ℕ) × IsToken d kind t i j) ⊎ ((fault : LexFault) × IsFault d t i fault)

-- no quote stands first, or behind #, where another byte stands
pub no_quote : (t : List ℕ) (i n : ℕ) → Has t i n → n ≢ 39 → n ≢ 35 → (quote : ℕ) → ¬ HasQuote t i quote
no_quote t i n h a b quote (q, inl e) = a (sym h ∙ sym (ap (λ k. get_or t k 0) e) ∙ q)
no_quote t i n h a b quote (q, inr e) = b (sym h ∙ e.0)

-- a byte that is no quote, digit or # and begins nothing is bad
pub bad_byte : (t : List ℕ) (i n : ℕ) → Has t i n → n ≢ 39 → n ≢ 35 → n ≢ 34 → is_digit n ≡ false → FaultsAs t i (BadByte i)
bad_byte t i n h a b c d = (refl, no_quote t i n h a b, λ e. c (sym h ∙ e), ap is_digit h ∙ d)

-- where the lead's kind has no token here, there is this fault
faulty : (d : Dialect) (kind : TokenKind) (t : List ℕ) (i : ℕ) (fault : LexFault) → lead (get_or t i 0) (get_or t (i + 1) 0) ≡ kind → normal kind ≡ kind → ((kind ≡ Identifier) → ⊥) → ((j : ℕ) → ¬ IsToken d kind t i j) → FaultsAs t i fault → Begins d t i
faulty d kind t i fault is own word none which = inr (fault, record { none = NoToken-lead d kind t i is own word none; which = which })

-- what begins at a # that names a symbol, or is bad
symbol_begins : (d : Dialect) (t : List ℕ) (i : ℕ) → lead (get_or t i 0) (get_or t (i + 1) 0) ≡ Symbol → Has t i 35 → Begins d t i
symbol_begins d t i is hash = elim (name_or_not t (i + 1)) [
  | inl (j, h) ↦ inl (Symbol, j, (hash, h))
  | inr none ↦ elim (cases_eq (get_or t (i + 1) 0) 39) [
    | inl quote ↦ faulty d Symbol t i (OpenString (i + 1)) is refl (λ e. cc) (λ j h. none j h.1) (quote, inr (hash, refl))
    | inr other ↦ faulty d Symbol t i (BadByte i) is refl (λ e. cc) (λ j h. none j h.1) (bad_hash t i hash other)
  ]
]
  where
    bad_hash : (t : List ℕ) (i : ℕ) → Has t i 35 → get_or t (i + 1) 0 ≢ 39 → FaultsAs t i (BadByte i)
    bad_hash t i hash other = (refl, λ quote h. quote_behind t i quote hash other h, λ e. omega arith, ap is_digit hash)
      where
        quote_behind : (t : List ℕ) (i quote : ℕ) → Has t i 35 → get_or t (i + 1) 0 ≢ 39 → ¬ HasQuote t i quote
        quote_behind t i quote hash other (q, inl e) = absurd (omega (arith, hash, sym (ap (λ k. get_or t k 0) e) ∙ q))
        quote_behind t i quote hash other (q, inr e) = other (sym (ap (λ k. get_or t k 0) e.1) ∙ q)

-- a brace is a token of the second dialect, and a bad byte of the first
brace_begins : (d : Dialect) (t : List ℕ) (i n : ℕ) (kind : TokenKind) → ((j : ℕ) → (d ≡ Second) → j ≡ i + 1 → IsToken d kind t i j) → ((j : ℕ) → IsToken d kind t i j → d ≡ Second) → lead (get_or t i 0) (get_or t (i + 1) 0) ≡ kind → normal kind ≡ kind → ((kind ≡ Identifier) → ⊥) → FaultsAs t i (BadByte i) → Begins d t i
brace_begins First t i n kind token only is own word bad = faulty First kind t i (BadByte i) is own word (λ j h. let e = only j h in cc) bad
brace_begins Second t i n kind token only is own word bad = inl (kind, i + 1, token (i + 1) refl refl)

-- what begins at i, by the kind that its first bytes tell
begins_as : (d : Dialect) (t : List ℕ) (i : ℕ) (kind : TokenKind) → i ≤ length t → lead (get_or t i 0) (get_or t (i + 1) 0) ≡ kind → Tells (get_or t i 0) (get_or t (i + 1) 0) kind → Begins d t i
begins_as d t i Identifier le is h = elim (word_begins t i h) [
  | inl (j, word) ↦ inl (Identifier, j, word)
  | inr (j, word) ↦ inl (Keyword, j, word)
]
begins_as d t i Keyword le is h = absurd h
begins_as d t i Binary le is h = let r = binary_begins t i h in inl (Binary, r.0, r.1)
begins_as d t i Bar le is h = inl (Bar, i + 1, (h, refl))
begins_as d t i Assign le is (inl h) = inl (Assign, i + 2, inl (h.0, h.1, refl))
begins_as d t i Assign le is (inr h) = inl (Assign, i + 1, inr (h, refl))
begins_as d t i Colon le is h = inl (Colon, i + 1, (h, refl))
begins_as d t i Semicolon le is h = inl (Semicolon, i + 1, (h, refl))
begins_as d t i Period le is h = inl (Period, i + 1, (h, refl))
begins_as d t i Caret le is h = inl (Caret, i + 1, (h, refl))
begins_as d t i Open le is h = inl (Open, i + 1, (h, refl))
begins_as d t i Close le is h = inl (Close, i + 1, (h, refl))
begins_as d t i BlockOpen le is h = inl (BlockOpen, i + 1, (h, refl))
begins_as d t i BlockClose le is h = inl (BlockClose, i + 1, (h, refl))
begins_as d t i BraceOpen le is h =
    brace_begins d t i 123 BraceOpen (λ j e f. (e, (h, f))) (λ j g. g.0) is refl (λ e. cc) (bad_byte t i 123 h (omega arith) (omega arith) (omega arith) refl)
begins_as d t i BraceClose le is h =
    brace_begins d t i 125 BraceClose (λ j e f. (e, (h, f))) (λ j g. g.0) is refl (λ e. cc) (bad_byte t i 125 h (omega arith) (omega arith) (omega arith) refl)
begins_as d t i ArrayOpen le is h = inl (ArrayOpen, i + 2, (h.0, h.1, refl))
begins_as d t i BytesOpen le is h = inl (BytesOpen, i + 2, (h.0, h.1, refl))
begins_as d t i String le is h = elim (string_or_not t i h) [
  | inl (j, s) ↦ inl (String, j, s)
  | inr none ↦ faulty d String t i (OpenString i) is refl (λ e. cc) none (h, inl refl)
]
begins_as d t i Comment le is h = elim (comment_or_not t i h) [
  | inl (j, s) ↦ inl (Comment, j, s)
  | inr none ↦ faulty d Comment t i (OpenComment i) is refl (λ e. cc) none (refl, h)
]
begins_as d t i Character le is h = elim (cases_lt (i + 1) (length t)) [
  | inl lt ↦ inl (Character, i + 2, (h, lt, refl))
  | inr end ↦ faulty d Character t i (BadByte i) is refl (λ e. cc) (λ j g. omega (arith, g.1, end)) (bad_byte t i 36 h (omega arith) (omega arith) (omega arith) refl)
]
begins_as d t i Symbol le is h = symbol_begins d t i is h
begins_as d t i Numeral le is h = elim (numeral_or_not t i h) [
  | inl (j, s) ↦ inl (Numeral, j, s)
  | inr none ↦ faulty d Numeral t i (BadNumeral i) is refl (λ e. cc) none (refl, h)
]
begins_as d t i End le is h = elim (cases_lt i (length t)) [
  | inl lt ↦ faulty d End t i (BadByte i) is refl (λ e. cc) (λ j g. omega (arith, g.0, lt)) (bad_byte t i (get_or t i 0) refl h.2 h.1 h.3 h.0)
  | inr end ↦ inl (End, i, (omega arith, refl))
]

-- at each place up to the text's end a token begins, or a fault stands there
pub begins : (d : Dialect) (t : List ℕ) (i : ℕ) → i ≤ length t → Begins d t i
begins d t i le = begins_as d t i (lead (get_or t i 0) (get_or t (i + 1) 0)) le refl (lead_tells (get_or t i 0) (get_or t (i + 1) 0))

-- the tokens from at on, n bytes before the text's end
lists_within : (d : Dialect) (t : List ℕ) (n at : ℕ) → at ≤ length t → length t < at + n → (ps : List Piece) × (f : Option LexFault) × HasTokens d t at ps f
lists_within d t zero at le lt = absurd (omega arith)
lists_within d t (suc n) at le lt =
    let blanks = run_ends is_blank t at refl in
    let inside = IsRun-inside is_blank t at blanks.0 refl le blanks.1 in
    elim (begins d t blanks.0 inside) [
      | inr (fault, h) ↦ ([], Some fault, Stopped at fault (record { from = blanks.0; blanks = blanks.1; fails = h }))
      | inl (kind, j, h) ↦
          let p : Piece = record { kind = kind; from = blanks.0; to = j } in
          let next : IsNext d t at p = record { blanks = blanks.1; token = h } in
          elim (IsToken-cases d kind t blanks.0 j h) [
            | inl (end, _, _) ↦ (p ∷ [], None, Ended at p next end)
            | inr s ↦ elim (is_end kind) [
              | inl end ↦ (p ∷ [], None, Ended at p next end)
              | inr other ↦
                  let r = lists_within d t n j s.inside (omega (arith, s.some, blanks.1.order)) in
                  (p ∷ r.0, r.1, Further at p r.0 r.1 next other r.2)
            ]
          ]
    ]
  where
    is_end : (kind : TokenKind) → (kind ≡ End) ⊎ (kind ≢ End)
    is_end End = inl refl
    is_end kind = inr (λ e. cc)

-- from each place on a text has tokens up to its end or a fault
pub lists : (d : Dialect) (t : List ℕ) (at : ℕ) → at ≤ length t → (ps : List Piece) × (f : Option LexFault) × HasTokens d t at ps f
lists d t at le = lists_within d t (length t + 1) at le (omega arith)
