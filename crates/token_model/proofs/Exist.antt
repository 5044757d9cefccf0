-- At each place of a text a token begins, or one fault stands there.
use Rattle.std.proofs.Common.{◌≡◌, ◌≢◌, ℕ, zero, suc, ◌+◌, ◌<◌, ◌≤◌, ◌⊎◌, inl, inr, Bool, false, List, length, get_or, refl, sym, ◌∙◌, ap, subst, arith, le_refl}
use Rattle.std.specs.Prelude.{slice_range}
use Rattle.std.specs.Char.{digit_value}
use Rattle.std.specs.Str.Parse.{digits_value}
use Rattle.std.proofs.lemmas.Bool.{false≢true, cases_Bool, cases_lt, cases_eq}
use Rattle.std.proofs.lemmas.List.{get_or_past}
use Rattle.rb_base.specs.Doubling.{IsPaired}
use Rattle.token_model.specs.Bytes.{is_digit, is_letter, is_word, is_binary, is_second, is_radix_digit, Has, Passes, Fails, IsRun}
use Rattle.token_model.specs.Tokens.{HasColon, IsIdentifier, IsKeyword, IsBinary, IsString, IsComment, IsKeywordRow, Last, More, IsSymbolName, Name, Keywords, Selector, Stroke, Quoted, IsDigits, HasRadix, IsInBase, IsMantissa, Radix, Fraction, Plain, HasExponent, IsExponent, Scaled, Unscaled, IsNumeral}
use Rattle.token_model.proofs.RunLemmas.{IsRun-same, Passes-inside, Has-inside}
use Rattle.token_model.proofs.Leads.{IsKeywordRow-letter}
use Rattle.token_model.proofs.Ends.{identifier_or_keyword, radix_or_fraction}
use Rattle.token_model.proofs.Strings.{IsPaired-none, IsPaired-byte, IsPaired-pair, IsString-open}
use Rattle.token_model.proofs.Spans.{IsKeyword-span}

-- one more byte before a run
pub IsRun-before : (p : ℕ → Bool) (t : List ℕ) (i j : ℕ) → Passes p t i → IsRun p t (i + 1) j → IsRun p t i j
IsRun-before p t i j h r = record {
  order = omega (arith, r.order);
  all = λ k low high. elim (cases_eq i k) [
    | inl e ↦ subst (Passes p t) e h
    | inr other ↦ r.all k (omega arith) high
  ];
  stops = r.stops;
}

-- a run that is over at once
pub IsRun-none : (p : ℕ → Bool) (t : List ℕ) (i : ℕ) → Fails p t i → IsRun p t i i
IsRun-none p t i h = record { order = le_refl i; all = λ k low high. absurd (omega arith); stops = h }

-- a run from i on ends, n bytes before the text's end
run_within : (p : ℕ → Bool) (t : List ℕ) (n i : ℕ) → p 0 ≡ false → length t ≤ i + n → (j : ℕ) × IsRun p t i j
run_within p t zero i none le = (i, IsRun-none p t i (ap p (get_or_past t i 0 (omega arith)) ∙ none))
run_within p t (suc n) i none le = elim (cases_Bool (p (get_or t i 0))) [
  | inl passes ↦ let r = run_within p t n (i + 1) none (omega arith) in (r.0, IsRun-before p t i r.0 passes r.1)
  | inr fails ↦ (i, IsRun-none p t i fails)
]

-- a run of a class that 0 is not in ends
pub run_ends : (p : ℕ → Bool) (t : List ℕ) (i : ℕ) → p 0 ≡ false → (j : ℕ) × IsRun p t i j
run_ends p t i none = run_within p t (length t) i none (omega arith)

-- whether a colon stands here that no = follows
colon_or_not : (t : List ℕ) (i : ℕ) → HasColon t i ⊎ (¬ HasColon t i)
colon_or_not t i = elim (cases_eq (get_or t i 0) 58) [
  | inl colon ↦ elim (cases_eq (get_or t (i + 1) 0) 61) [
    | inl equals ↦ inr (λ h. h.1 equals)
    | inr other ↦ inl (colon, other)
  ]
  | inr other ↦ inr (λ h. other h.0)
]

-- a letter begins an identifier or a keyword
pub word_begins : (t : List ℕ) (i : ℕ) → Passes is_letter t i → ((j : ℕ) × IsIdentifier t i j) ⊎ ((j : ℕ) × IsKeyword t i j)
word_begins t i h =
    let r = run_ends is_word t (i + 1) refl in
    elim (colon_or_not t r.0) [
      | inl colon ↦ inr (r.0 + 1, record { colon = r.0; name = (h, r.1); has_colon = colon; end = refl })
      | inr none ↦ inl (r.0, ((h, r.1), none))
    ]

-- whether a keyword begins here
keyword_or_not : (t : List ℕ) (i : ℕ) → ((j : ℕ) × IsKeyword t i j) ⊎ ((j : ℕ) → ¬ IsKeyword t i j)
keyword_or_not t i = elim (cases_Bool (is_letter (get_or t i 0))) [
  | inl passes ↦ elim (word_begins t i passes) [
    | inl (n, word) ↦ inr (λ j h. identifier_or_keyword t i n j word h)
    | inr word ↦ inl word
  ]
  | inr fails ↦ inr (λ j h. false≢true (sym fails ∙ h.name.0))
]

-- a keyword begins a row of keywords, n bytes before the text's end
row_within : (t : List ℕ) (n i j : ℕ) → length t ≤ j + n → IsKeyword t i j → (k : ℕ) × IsKeywordRow t i k
row_within t zero i j le h =
    (j, Last i j h (λ k g. absurd (omega (arith, le, Passes-inside is_letter t j refl g.name.0))))
row_within t (suc n) i j le h = elim (keyword_or_not t j) [
  | inl (k, g) ↦ let r = row_within t n j k (omega (arith, (IsKeyword-span t j k g).some)) g in (r.0, More i j r.0 h r.1)
  | inr none ↦ (j, Last i j h none)
]

-- a keyword begins a row of keywords
pub row_begins : (t : List ℕ) (i j : ℕ) → IsKeyword t i j → (k : ℕ) × IsKeywordRow t i k
row_begins t i j h = row_within t (length t) i j (omega arith) h

-- a binary character begins a binary selector
pub binary_begins : (t : List ℕ) (i : ℕ) → Passes is_binary t i → (j : ℕ) × IsBinary t i j
binary_begins t i h = elim (cases_Bool (is_second (get_or t (i + 1) 0))) [
  | inl passes ↦ (i + 2, (h, inl (passes, refl)))
  | inr fails ↦ (i + 1, (h, inr (fails, refl)))
]

-- whether a string that is read up to m closes, n bytes before the text's end
string_within : (t : List ℕ) (n i m : ℕ) → Has t i 39 → i < m → length t ≤ m + n → IsPaired 39 (slice_range t (i + 1) m) → ((j : ℕ) × IsString t i j) ⊎ ((j : ℕ) → ¬ IsString t i j)
string_within t zero i m first lt le h = inr (IsString-open t i m (omega arith) h)
string_within t (suc n) i m first lt le h = elim (cases_lt m (length t)) [
  | inl inside ↦ elim (cases_eq (get_or t m 0) 39) [
    | inl quote ↦ elim (cases_eq (get_or t (m + 1) 0) 39) [
      | inl second ↦ string_within t n i (m + 2) first (omega arith) (omega arith) (IsPaired-pair t (i + 1) m (omega arith) quote second h)
      | inr alone ↦ inl (m + 1, record { close = m; opens = first; order = lt; inside = h; closes = quote; alone = alone; end = refl })
    ]
    | inr other ↦ string_within t n i (m + 1) first (omega arith) (omega arith) (IsPaired-byte t (i + 1) m (omega arith) inside other h)
  ]
  | inr end ↦ inr (IsString-open t i m end h)
]

-- whether the string that opens at a quote closes
pub string_or_not : (t : List ℕ) (i : ℕ) → Has t i 39 → ((j : ℕ) × IsString t i j) ⊎ ((j : ℕ) → ¬ IsString t i j)
string_or_not t i h = string_within t (length t) i (i + 1) h (omega arith) (omega arith) (IsPaired-none t (i + 1))

-- whether a comment that is read up to m closes
comment_within : (t : List ℕ) (n i m : ℕ) → Has t i 34 → i < m → length t ≤ m + n → ((k : ℕ) → i < k → k < m → get_or t k 0 ≢ 34) → ((j : ℕ) × IsComment t i j) ⊎ ((j : ℕ) → ¬ IsComment t i j)
comment_within t zero i m first lt le h =
    inr (λ j g. h g.close g.order (omega (arith, Has-inside t g.close 34 (omega arith) g.closes)) g.closes)
comment_within t (suc n) i m first lt le h = elim (cases_eq (get_or t m 0) 34) [
  | inl quote ↦ inl (m + 1, record { close = m; opens = first; order = lt; inside = h; closes = quote; end = refl })
  | inr other ↦ comment_within t n i (m + 1) first (omega arith) (omega arith) (λ k low high. elim (cases_eq m k) [
    | inl e ↦ subst (λ x. get_or t x 0 ≢ 34) e other
    | inr not_last ↦ h k low (omega arith)
  ])
]

-- whether the comment that opens at a double quote closes
pub comment_or_not : (t : List ℕ) (i : ℕ) → Has t i 34 → ((j : ℕ) × IsComment t i j) ⊎ ((j : ℕ) → ¬ IsComment t i j)
comment_or_not t i h = comment_within t (length t) i (i + 1) h (omega arith) (omega arith) (λ k low high. absurd (omega arith))

-- where no letter, binary character or bar stands, a symbol's name can be a string alone
pub only_quoted : (t : List ℕ) (i j : ℕ) → Fails is_letter t i → Fails is_binary t i → get_or t i 0 ≢ 124 → ¬ IsString t i j → ¬ IsSymbolName t i j
only_quoted t i j letter binary stroke string (Name h) = false≢true (sym letter ∙ h.0.0)
only_quoted t i j letter binary stroke string (Keywords h) = false≢true (sym letter ∙ IsKeywordRow-letter t i j h)
only_quoted t i j letter binary stroke string (Selector h) = false≢true (sym binary ∙ h.0)
only_quoted t i j letter binary stroke string (Stroke h) = stroke h.0
only_quoted t i j letter binary stroke string (Quoted h) = string h

-- whether what follows # names a symbol
pub name_or_not : (t : List ℕ) (i : ℕ) → ((j : ℕ) × IsSymbolName t i j) ⊎ ((j : ℕ) → ¬ IsSymbolName t i j)
name_or_not t i = elim (cases_Bool (is_letter (get_or t i 0))) [
  | inl letter ↦ elim (word_begins t i letter) [
    | inl (j, h) ↦ inl (j, Name h)
    | inr (j, h) ↦ let r = row_begins t i j h in inl (r.0, Keywords r.1)
  ]
  | inr no_letter ↦ elim (cases_Bool (is_binary (get_or t i 0))) [
    | inl binary ↦ let r = binary_begins t i binary in inl (r.0, Selector r.1)
    | inr no_binary ↦ elim (cases_eq (get_or t i 0) 124) [
      | inl stroke ↦ inl (i + 1, Stroke (stroke, refl))
      | inr no_stroke ↦ elim (cases_eq (get_or t i 0) 39) [
        | inl quote ↦ elim (string_or_not t i quote) [
          | inl (j, h) ↦ inl (j, Quoted h)
          | inr never ↦ inr (λ j h. only_quoted t i j no_letter no_binary no_stroke (never j) h)
        ]
        | inr no_quote ↦ inr (λ j h. only_quoted t i j no_letter no_binary no_stroke (λ g. no_quote g.opens) h)
      ]
    ]
  ]
]

-- whether a number below n and above r reaches the bound
reaches_or_below : (f : ℕ → ℕ) (bound r n : ℕ) → ((k : ℕ) → r < k → k < n → f k < bound) ⊎ ((k : ℕ) × ((r < k) × (k < n) × (bound ≤ f k)))
reaches_or_below f bound r zero = inl (λ k low high. absurd (omega arith))
reaches_or_below f bound r (suc n) = elim (reaches_or_below f bound r n) [
  | inr (k, (low, high, reach)) ↦ inr (k, (low, omega arith, reach))
  | inl below ↦ elim (cases_lt (f n) bound) [
    | inl lt ↦ inl (λ k low high. elim (cases_eq n k) [
      | inl e ↦ subst (λ x. f x < bound) e lt
      | inr other ↦ below k low (omega arith)
    ])
    | inr reach ↦ elim (cases_lt r n) [
      | inl low ↦ inr (n, (low, omega arith, reach))
      | inr first ↦ inl (λ k low high. absurd (omega arith))
    ]
  ]
]

-- whether the base is right and each digit below it
base_or_not : (t : List ℕ) (i r j : ℕ) → IsInBase t i r j ⊎ (¬ IsInBase t i r j)
base_or_not t i r j =
    let base = digits_value 10 (slice_range t i r) in
    elim (cases_lt base 2) [
      | inl small ↦ inr (λ h. omega (arith, small, h.low))
      | inr low ↦ elim (cases_lt 36 base) [
        | inl large ↦ inr (λ h. omega (arith, large, h.high))
        | inr high ↦ elim (reaches_or_below (λ k. digit_value (get_or t k 0)) base r j) [
          | inl below ↦ inl (record { low = low; high = high; below = below })
          | inr (k, (after, before, reach)) ↦ inr (λ h. omega (arith, reach, h.below k after before))
        ]
      ]
    ]

-- a radix part in no base stands behind the digits: no numeral begins here
pub numeral_in_no_base : (t : List ℕ) (i n m : ℕ) → IsDigits t i n → HasRadix t n → IsRun is_radix_digit t (n + 1) m → ¬ IsInBase t i n m → (j : ℕ) → ¬ IsNumeral t i j
numeral_in_no_base t i n m d r run wrong j h =
    let same : h.whole ≡ n = IsRun-same is_digit t (i + 1) h.whole n h.digits.1 d.1 in
    part_in_no_base t i n m h.mantissa r run wrong (subst (λ x. IsMantissa t i x h.mantissa) same h.part)
  where
    part_in_no_base : (t : List ℕ) (i n m j : ℕ) → HasRadix t n → IsRun is_radix_digit t (n + 1) m → ¬ IsInBase t i n m → ¬ IsMantissa t i n j
    part_in_no_base t i n m j r run wrong (Radix s other right) = wrong (subst (IsInBase t i n) (IsRun-same is_radix_digit t (n + 1) j m other run) right)
    part_in_no_base t i n m j r run wrong (Fraction s other) = radix_or_fraction t n r.0 s.0
    part_in_no_base t i n m j r run wrong (Plain none _ _) = none r

-- whether an exponent stands here
pub exponent_or_not : (t : List ℕ) (i : ℕ) → ((k : ℕ) × HasExponent t i k) ⊎ ((k : ℕ) → ¬ HasExponent t i k)
exponent_or_not t i = elim (cases_eq (get_or t i 0) 101) [
  | inr other ↦ inr (λ k h. other h.0)
  | inl letter ↦ elim (cases_Bool (is_digit (get_or t (i + 1) 0))) [
    | inl digit ↦ inl (i + 1, (letter, inl refl, digit))
    | inr none ↦ elim (cases_eq (get_or t (i + 1) 0) 45) [
      | inr unsigned ↦ inr (λ k h. never_unsigned t i k none unsigned h)
      | inl minus ↦ elim (cases_Bool (is_digit (get_or t (i + 2) 0))) [
        | inl digit ↦ inl (i + 2, (letter, inr (minus, refl), digit))
        | inr no_digit ↦ inr (λ k h. never_signed t i k none no_digit h)
      ]
    ]
  ]
]
  where
    never_unsigned : (t : List ℕ) (i k : ℕ) → Fails is_digit t (i + 1) → get_or t (i + 1) 0 ≢ 45 → ¬ HasExponent t i k
    never_unsigned t i k none other (l, inl e, d) = false≢true (sym none ∙ ap (λ n. is_digit (get_or t n 0)) (sym e) ∙ d)
    never_unsigned t i k none other (l, inr (m, e), d) = other m

    never_signed : (t : List ℕ) (i k : ℕ) → Fails is_digit t (i + 1) → Fails is_digit t (i + 2) → ¬ HasExponent t i k
    never_signed t i k none other (l, inl e, d) = false≢true (sym none ∙ ap (λ n. is_digit (get_or t n 0)) (sym e) ∙ d)
    never_signed t i k none other (l, inr (m, e), d) = false≢true (sym other ∙ ap (λ n. is_digit (get_or t n 0)) (sym e) ∙ d)

-- an exponent, or nothing, stands everywhere
exponent_ends : (t : List ℕ) (i : ℕ) → (j : ℕ) × IsExponent t i j
exponent_ends t i = elim (exponent_or_not t i) [
  | inl (k, h) ↦ let r = run_ends is_digit t k refl in (r.0, Scaled k h r.1)
  | inr none ↦ (i, Unscaled none refl)
]

-- a class or not, behind a byte or not
both_or_not : (p : ℕ → Bool) (t : List ℕ) (i b : ℕ) → (Has t i b × Passes p t (i + 1)) ⊎ (¬ (Has t i b × Passes p t (i + 1)))
both_or_not p t i b = elim (cases_eq (get_or t i 0) b) [
  | inr other ↦ inr (λ h. other h.0)
  | inl is ↦ elim (cases_Bool (p (get_or t (i + 1) 0))) [
    | inl passes ↦ inl (is, passes)
    | inr fails ↦ inr (λ h. false≢true (sym fails ∙ h.1))
  ]
]

-- whether a numeral begins at a digit
pub numeral_or_not : (t : List ℕ) (i : ℕ) → Passes is_digit t i → ((j : ℕ) × IsNumeral t i j) ⊎ ((j : ℕ) → ¬ IsNumeral t i j)
numeral_or_not t i h =
    let w = run_ends is_digit t (i + 1) refl in
    let digits : IsDigits t i w.0 = (h, w.1) in
    elim (both_or_not is_radix_digit t w.0 114) [
      | inl radix ↦ let r = run_ends is_radix_digit t (w.0 + 1) refl in
          elim (base_or_not t i w.0 r.0) [
            | inl right ↦ let e = exponent_ends t r.0 in inl (e.0, record { whole = w.0; mantissa = r.0; digits = digits; part = Radix radix r.1 right; exponent = e.1 })
            | inr wrong ↦ inr (numeral_in_no_base t i w.0 r.0 digits radix r.1 wrong)
          ]
      | inr no_radix ↦ elim (both_or_not is_digit t w.0 46) [
        | inl fraction ↦ let r = run_ends is_digit t (w.0 + 1) refl in
            let e = exponent_ends t r.0 in
            inl (e.0, record { whole = w.0; mantissa = r.0; digits = digits; part = Fraction fraction r.1; exponent = e.1 })
        | inr none ↦ let e = exponent_ends t w.0 in
            inl (e.0, record { whole = w.0; mantissa = w.0; digits = digits; part = Plain no_radix none refl; exponent = e.1 })
      ]
    ]
