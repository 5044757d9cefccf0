-- A pattern has one list of tokens, up to its end or to one fault.
use Rattle.std.proofs.Common.{◌≡◌, ◌≢◌, ℕ, zero, suc, ◌+◌, ◌<◌, ◌≤◌, ◌⊎◌, inl, inr, Bool, true, false, List, [], ◌∷◌, length, get_or, Option, Some, None, refl, sym, ◌∙◌, ap, subst, arith}
use Rattle.std.specs.Prelude.{◌==◌, ◌||◌, if◌then◌else◌}
use Rattle.std.proofs.lemmas.Bool.{false≢true, cases_Bool, cases_eq}
use Rattle.token_model.specs.Bytes.{is_blank, is_letter, Has, Passes}
use Rattle.token_model.specs.Tokens.{IsToken}
use Rattle.token_model.specs.Faults.{IsFault}
use Rattle.token_model.specs.TokenLists.{Piece}
use Rattle.token_model.specs.declared.kind.Dialect.{Dialect}
use Rattle.token_model.specs.declared.kind.Dialect.TheVariants.{Second}
use Rattle.token_model.specs.declared.kind.TokenKind.{TokenKind}
use Rattle.token_model.specs.declared.kind.TokenKind.TheVariants.{Identifier, Keyword, End}
use Rattle.token_model.specs.declared.fault.LexFault.{LexFault}
use Rattle.token_model.proofs.RunLemmas.{IsRun-same, IsRun-inside, Has-inside}
use Rattle.token_model.proofs.Leads.{lead, lead_of_token, same_normal}
use Rattle.token_model.proofs.Ends.{IsName-same, IsKeyword-same, identifier_or_keyword}
use Rattle.token_model.proofs.OneToken.{IsToken-same}
use Rattle.token_model.proofs.Spans.{IsSpan, IsName-span, IsKeyword-span, IsToken-cases}
use Rattle.token_model.proofs.Exist.{run_ends, word_begins}
use Rattle.token_model.proofs.Begins.{begins}
use Rattle.token_model.proofs.Lists.{FaultsAs-same}
use Rattle.grammar_model.specs.Terminal.{Text}
use Rattle.grammar_model.specs.PatternTokens.{mark_at, behind_mark, MayMark, IsMetaWord, IsMeta, IsPatternToken, IsPatternNext, IsPatternNextFault, HasPatternTokens, Ended, Stopped, Further}

-- no token of another text begins at a backquote
pub quote_or_token : (d : Dialect) (kind : TokenKind) (t : Text) (i j : ℕ) → Has t i 96 → IsToken d kind t i j → ⊥
quote_or_token d kind t i j q h = elim (same_normal kind End (sym (lead_of_token d kind t i j h) ∙ ap (λ b. lead b (get_or t (i + 1) 0)) q)) [
  | inl e ↦ let end : IsToken d End t i j = subst (λ k. IsToken d k t i j) e h in omega (arith, Has-inside t i 96 (omega arith) q, end.0)
  | inr (a, b) ↦ let k : End ≡ Identifier = b in cc
]

-- a metavariable has a word behind its marks
pub meta_letter : (kind : TokenKind) (t : Text) (i j : ℕ) → IsMeta kind t i j → Passes is_letter t (behind_mark t (mark_at t i))
meta_letter Identifier t i j h = h.word.0.0
meta_letter Keyword t i j h = h.word.name.0
meta_letter kind t i j h = absurd h.mark

-- the backquotes are one or two
mark_after : (t : Text) (i : ℕ) → i < mark_at t i
mark_after t i = decide (get_or t (i + 1) 0 == 96)
  where
    decide : (b : Bool) → i < (if b then i + 2 else i + 1)
    decide true = omega arith
    decide false = omega arith

-- the mark is some bytes or none
behind_after : (t : Text) (m : ℕ) → m ≤ behind_mark t m
behind_after t m = decide (get_or t m 0 == 46) (get_or t (m + 1) 0 == 64) (get_or t m 0 == 35 || get_or t m 0 == 64)
  where
    decide : (a b c : Bool) → m ≤ (if a then (if b then m + 2 else m + 1) else if c then m + 1 else m)
    decide true true c = omega arith
    decide true false c = omega arith
    decide false b true = omega arith
    decide false b false = omega arith

-- a word behind a mark is some bytes of the text
word_span : (b : ℕ) (kind : TokenKind) (t : Text) (i j : ℕ) → MayMark b kind → IsMetaWord b kind t i j → IsSpan t i j
word_span b Identifier t i j may h = IsName-span t i j h.0
word_span b Keyword t i j may h = IsKeyword-span t i j h
word_span b kind t i j may h = absurd may

-- behind a mark stands one word
word_same : (b : ℕ) (k m : TokenKind) (t : Text) (i j n : ℕ) → MayMark b k → MayMark b m → IsMetaWord b k t i j → IsMetaWord b m t i n → (k ≡ m) × (j ≡ n)
word_same b Identifier Identifier t i j n may might h g = (refl, IsName-same t i j n h.0 g.0)
word_same b Identifier Keyword t i j n may might h g = absurd (identifier_or_keyword t i j n (h.0, h.1 might.0 might.1) g)
word_same b Keyword Identifier t i j n may might h g = absurd (identifier_or_keyword t i n j (g.0, g.1 may.0 may.1) h)
word_same b Keyword Keyword t i j n may might h g = (refl, IsKeyword-same t i j n h g)
word_same b Identifier m t i j n may might h g = absurd might
word_same b Keyword m t i j n may might h g = absurd might
word_same b k m t i j n may might h g = absurd may

-- a metavariable is some bytes of the text
pub meta_span : (kind : TokenKind) (t : Text) (i j : ℕ) → IsMeta kind t i j → IsSpan t i j
meta_span kind t i j h =
    let before : i < behind_mark t (mark_at t i) = omega (arith, mark_after t i, behind_after t (mark_at t i)) in
    let word = word_span (get_or t (mark_at t i) 0) kind t (behind_mark t (mark_at t i)) j h.mark h.word in
    record { some = omega (arith, before, word.some); inside = word.inside }

-- at a place at most one token of a pattern begins
pub IsPatternToken-same : (d : Dialect) (k m : TokenKind) (t : Text) (i j n : ℕ) → IsPatternToken d k t i j → IsPatternToken d m t i n → (k ≡ m) × (j ≡ n)
IsPatternToken-same d k m t i j n (inl h) (inl g) = IsToken-same d k m t i j n h g
IsPatternToken-same d k m t i j n (inl h) (inr g) = absurd (quote_or_token d k t i j g.quote h)
IsPatternToken-same d k m t i j n (inr h) (inl g) = absurd (quote_or_token d m t i n h.quote g)
IsPatternToken-same d k m t i j n (inr h) (inr g) = word_same (get_or t (mark_at t i) 0) k m t (behind_mark t (mark_at t i)) j n h.mark g.mark h.word g.word

-- a token of a pattern is the end, or it is some bytes of the text
pub IsPatternToken-cases : (d : Dialect) (kind : TokenKind) (t : Text) (i j : ℕ) → IsPatternToken d kind t i j → ((kind ≡ End) × (i ≡ length t) × (j ≡ i)) ⊎ IsSpan t i j
IsPatternToken-cases d kind t i j (inl h) = IsToken-cases d kind t i j h
IsPatternToken-cases d kind t i j (inr h) = inr (meta_span kind t i j h)

-- what a place of a pattern has: a token, or a fault
abbrev pub PatternBegins : Dialect → Text → ℕ → Type 0
PatternBegins d t i = ((kind : TokenKind) × (j : ℕ) × IsPatternToken d kind t i j) ⊎ ((fault : LexFault) × ((kind : TokenKind) (j : ℕ) → ¬ IsMeta kind t i j) × IsFault d t i fault)

-- a backquote that begins no metavariable is bad
malformed : (d : Dialect) (t : Text) (i : ℕ) → i ≤ length t → Has t i 96 → ((kind : TokenKind) (j : ℕ) → ¬ IsMeta kind t i j) → PatternBegins d t i
malformed d t i le q none = elim (begins d t i le) [
  | inl (kind, j, h) ↦ absurd (quote_or_token d kind t i j q h)
  | inr (fault, h) ↦ inr (fault, none, h)
]

-- the name of a keyword behind # or . is a metavariable, and so is a keyword behind another mark
key_begins : (d : Dialect) (t : Text) (i j : ℕ) → Has t i 96 → IsToken Second Keyword t (behind_mark t (mark_at t i)) j → PatternBegins d t i
key_begins d t i j q h = elim (cases_eq (get_or t (mark_at t i) 0) 35) [
  | inl hash ↦ inl (Identifier, h.colon, inr (record { quote = q; mark = tt; word = (h.name, λ no_hash. absurd (no_hash hash)) }))
  | inr no_hash ↦ elim (cases_eq (get_or t (mark_at t i) 0) 46) [
    | inl point ↦ inl (Identifier, h.colon, inr (record { quote = q; mark = tt; word = (h.name, λ _ no_point. absurd (no_point point)) }))
    | inr no_point ↦ inl (Keyword, j, inr (record { quote = q; mark = (no_hash, no_point); word = h }))
  ]
]

-- what begins at a backquote
quote_begins : (d : Dialect) (t : Text) (i : ℕ) → i ≤ length t → Has t i 96 → PatternBegins d t i
quote_begins d t i le q = elim (cases_Bool (is_letter (get_or t (behind_mark t (mark_at t i)) 0))) [
  | inr fails ↦ malformed d t i le q (λ kind j h. false≢true (sym fails ∙ meta_letter kind t i j h))
  | inl letter ↦ elim (word_begins t (behind_mark t (mark_at t i)) letter) [
    | inl (j, word) ↦ inl (Identifier, j, inr (record { quote = q; mark = tt; word = (word.0, λ _ _. word.1) }))
    | inr (j, word) ↦ key_begins d t i j q word
  ]
]

-- at each place up to the text's end a token of a pattern begins, or a fault stands there
pub pattern_begins : (d : Dialect) (t : Text) (i : ℕ) → i ≤ length t → PatternBegins d t i
pattern_begins d t i le = elim (cases_eq (get_or t i 0) 96) [
  | inl q ↦ quote_begins d t i le q
  | inr other ↦ elim (begins d t i le) [
    | inl (kind, j, h) ↦ inl (kind, j, inl h)
    | inr (fault, h) ↦ inr (fault, (λ kind j g. other g.quote), h)
  ]
]

-- the tokens from at on, n bytes before the text's end
lists_within : (d : Dialect) (t : Text) (n at : ℕ) → at ≤ length t → length t < at + n → (ps : List Piece) × (f : Option LexFault) × HasPatternTokens d t at ps f
lists_within d t zero at le lt = absurd (omega arith)
lists_within d t (suc n) at le lt =
    let blanks = run_ends is_blank t at refl in
    let inside = IsRun-inside is_blank t at blanks.0 refl le blanks.1 in
    elim (pattern_begins d t blanks.0 inside) [
      | inr (fault, none, h) ↦ ([], Some fault, Stopped at fault (record { from = blanks.0; blanks = blanks.1; no_meta = none; fails = h }))
      | inl (kind, j, h) ↦
          let p : Piece = record { kind = kind; from = blanks.0; to = j } in
          let next : IsPatternNext d t at p = record { blanks = blanks.1; token = h } in
          elim (IsPatternToken-cases d kind t blanks.0 j h) [
            | inl (end, _, _) ↦ (p ∷ [], None, Ended at p next end)
            | inr s ↦ elim (is_end kind) [
              | inl end ↦ (p ∷ [], None, Ended at p next end)
              | inr other ↦
                  let r = lists_within d t n j s.inside (omega (arith, s.some, blanks.1.order)) in
                  (p ∷ r.0, r.1, Further at p r.0 r.1 next other r.2)
            ]
          ]
    ]
  where
    is_end : (kind : TokenKind) → (kind ≡ End) ⊎ (kind ≢ End)
    is_end End = inl refl
    is_end kind = inr (λ e. cc)

-- from each place on a pattern has tokens up to its end or a fault
pub pattern_lists : (d : Dialect) (t : Text) (at : ℕ) → at ≤ length t → (ps : List Piece) × (f : Option LexFault) × HasPatternTokens d t at ps f
pattern_lists d t at le = lists_within d t (length t + 1) at le (omega arith)

-- the token behind the blanks is one
pub IsPatternNext-same : (d : Dialect) (t : Text) (at : ℕ) (p q : Piece) → IsPatternNext d t at p → IsPatternNext d t at q → p ≡ q
IsPatternNext-same d t at p q h g =
    let from : q.from ≡ p.from = IsRun-same is_blank t at q.from p.from g.blanks h.blanks in
    let same = IsPatternToken-same d p.kind q.kind t p.from p.to q.to h.token (subst (λ n. IsPatternToken d q.kind t n q.to) from g.token) in
    λ i. record { kind = same.0 i; from = sym from i; to = same.1 i }

-- the fault behind the blanks is one
pub IsPatternNextFault-same : (d : Dialect) (t : Text) (at : ℕ) (e f : LexFault) → IsPatternNextFault d t at e → IsPatternNextFault d t at f → e ≡ f
IsPatternNextFault-same d t at e f h g =
    let from : g.from ≡ h.from = IsRun-same is_blank t at g.from h.from g.blanks h.blanks in
    FaultsAs-same t h.from e f h.fails.which (subst (λ n. IsFault d t n f) from g.fails).which

-- behind the blanks stands a token or there is a fault, never both
pub pattern_next_or_fault : (d : Dialect) (t : Text) (at : ℕ) (p : Piece) (f : LexFault) → IsPatternNext d t at p → IsPatternNextFault d t at f → ⊥
pattern_next_or_fault d t at p f h g =
    let from : p.from ≡ g.from = IsRun-same is_blank t at p.from g.from h.blanks g.blanks in
    elim (subst (λ n. IsPatternToken d p.kind t n p.to) from h.token) [
      | inl token ↦ g.fails.none p.kind p.to token
      | inr meta ↦ g.no_meta p.kind p.to meta
    ]

-- a pattern has one list of tokens and one end
pub HasPatternTokens-same : (d : Dialect) (t : Text) (at : ℕ) (ps qs : List Piece) (e f : Option LexFault) → HasPatternTokens d t at ps e → HasPatternTokens d t at qs f → (ps ≡ qs) × (e ≡ f)
HasPatternTokens-same d t at ps qs e f (Ended _ p h is) (Ended _ q g _) =
    let same = IsPatternNext-same d t at p q h g in (ap (λ x. x ∷ []) same, refl)
HasPatternTokens-same d t at ps qs e f (Ended _ p h is) (Stopped _ x g) = absurd (pattern_next_or_fault d t at p x h g)
HasPatternTokens-same d t at ps qs e f (Ended _ p h is) (Further _ q rest _ g other more) =
    let same = IsPatternNext-same d t at p q h g in absurd (other (sym (ap (λ x. x.kind) same) ∙ is))
HasPatternTokens-same d t at ps qs e f (Stopped _ x g) (Ended _ p h is) = absurd (pattern_next_or_fault d t at p x h g)
HasPatternTokens-same d t at ps qs e f (Stopped _ x g) (Stopped _ y h) = (refl, ap (λ z. Some z) (IsPatternNextFault-same d t at x y g h))
HasPatternTokens-same d t at ps qs e f (Stopped _ x g) (Further _ p rest _ h other more) = absurd (pattern_next_or_fault d t at p x h g)
HasPatternTokens-same d t at ps qs e f (Further _ q rest _ g other more) (Ended _ p h is) =
    let same = IsPatternNext-same d t at p q h g in absurd (other (sym (ap (λ x. x.kind) same) ∙ is))
HasPatternTokens-same d t at ps qs e f (Further _ p rest _ h other more) (Stopped _ x g) = absurd (pattern_next_or_fault d t at p x h g)
HasPatternTokens-same d t at ps qs e f (Further _ p rest _ h other more) (Further _ q tail _ g next again) =
    let same = IsPatternNext-same d t at q p g h in
    let place : q.to ≡ p.to = ap (λ x. x.to) same in
    let s = HasPatternTokens-same d t p.to rest tail e f more (subst (λ n. HasPatternTokens d t n tail f) place again) in
    (λ i. sym same i ∷ s.0 i, s.1)
