-- A text has one list of tokens, in order; joined with what stands between them they are the text.
use Rattle.std.proofs.Common.{◌≡◌, ℕ, ◌≤◌, ◌⊎◌, inl, inr, List, [], ◌∷◌, ◌++◌, get_or, drop, Option, Some, None, refl, sym, ◌∙◌, ap, subst, arith, append_assoc}
use Rattle.std.specs.Prelude.{slice_range}
use Rattle.std.proofs.lemmas.List.Folds.{drop_split}
use Rattle.std.proofs.lemmas.Bool.{false≢true}
use Rattle.std.proofs.Math.Seq.{drop-length}
use Rattle.token_model.specs.Bytes.{is_blank, is_digit, Has, Passes}
use Rattle.token_model.specs.Tokens.{IsToken}
use Rattle.token_model.specs.Faults.{HasQuote, FaultsAs}
use Rattle.token_model.specs.TokenLists.{Piece, IsNext, IsNextFault, HasTokens, Ended, Stopped, Further, AreInOrder, joined}
use Rattle.token_model.specs.declared.kind.Dialect.{Dialect}
use Rattle.token_model.specs.declared.kind.TokenKind.TheVariants.{End}
use Rattle.token_model.specs.declared.fault.LexFault.{LexFault}
use Rattle.token_model.specs.declared.fault.LexFault.TheVariants.{BadByte, OpenString, OpenComment, BadNumeral}
use Rattle.token_model.proofs.RunLemmas.{IsRun-same}
use Rattle.token_model.proofs.Leads.{other_byte}
use Rattle.token_model.proofs.OneToken.{IsToken-same}
use Rattle.token_model.proofs.Spans.{IsToken-inside}

-- the token behind the blanks is one
pub IsNext-same : (d : Dialect) (t : List ℕ) (at : ℕ) (p q : Piece) → IsNext d t at p → IsNext d t at q → p ≡ q
IsNext-same d t at p q h g =
    let from : q.from ≡ p.from = IsRun-same is_blank t at q.from p.from g.blanks h.blanks in
    let same = IsToken-same d p.kind q.kind t p.from p.to q.to h.token (subst (λ n. IsToken d q.kind t n q.to) from g.token) in
    λ i. record { kind = same.0 i; from = sym from i; to = same.1 i }

-- a quote stands at one place of what begins here
quote_same : (t : List ℕ) (i k l : ℕ) → HasQuote t i k → HasQuote t i l → k ≡ l
quote_same t i k l (h, inl a) (g, inl b) = a ∙ sym b
quote_same t i k l (h, inl a) (g, inr b) = absurd (omega (arith, sym (ap (λ n. get_or t n 0) a) ∙ h, b.0))
quote_same t i k l (h, inr a) (g, inl b) = absurd (omega (arith, sym (ap (λ n. get_or t n 0) b) ∙ g, a.0))
quote_same t i k l (h, inr a) (g, inr b) = a.1 ∙ sym b.1

-- a string or a symbol begins with a quote or #
quote_first : (t : List ℕ) (i q : ℕ) → HasQuote t i q → (Has t i 39) ⊎ (Has t i 35)
quote_first t i q (h, inl e) = inl (sym (ap (λ n. get_or t n 0) e) ∙ h)
quote_first t i q (h, inr e) = inr e.0

-- a string or a symbol begins with no double quote
quote_or_comment : (t : List ℕ) (i q : ℕ) → HasQuote t i q → Has t i 34 → ⊥
quote_or_comment t i q h g = elim (quote_first t i q h) [ inl a ↦ omega (arith, a, g) | inr a ↦ omega (arith, a, g) ]

-- a string or a symbol begins with no digit
quote_or_digit : (t : List ℕ) (i q : ℕ) → HasQuote t i q → Passes is_digit t i → ⊥
quote_or_digit t i q h g = elim (quote_first t i q h) [
  | inl a ↦ other_byte is_digit (get_or t i 0) 39 g refl a
  | inr a ↦ other_byte is_digit (get_or t i 0) 35 g refl a
]

-- a double quote is no digit
comment_or_digit : (t : List ℕ) (i : ℕ) → Has t i 34 → Passes is_digit t i → ⊥
comment_or_digit t i h g = other_byte is_digit (get_or t i 0) 34 g refl h

-- where no token begins there is one fault
pub FaultsAs-same : (t : List ℕ) (i : ℕ) (e f : LexFault) → FaultsAs t i e → FaultsAs t i f → e ≡ f
FaultsAs-same t i (BadByte a) (BadByte b) h g = ap (λ n. BadByte n) (h.0 ∙ sym g.0)
FaultsAs-same t i (BadByte a) (OpenString b) h g = absurd (h.1 b g)
FaultsAs-same t i (BadByte a) (OpenComment b) h g = absurd (h.2 g.1)
FaultsAs-same t i (BadByte a) (BadNumeral b) h g = absurd (false≢true (sym h.3 ∙ g.1))
FaultsAs-same t i (OpenString a) (BadByte b) h g = absurd (g.1 a h)
FaultsAs-same t i (OpenString a) (OpenString b) h g = ap (λ n. OpenString n) (quote_same t i a b h g)
FaultsAs-same t i (OpenString a) (OpenComment b) h g = absurd (quote_or_comment t i a h g.1)
FaultsAs-same t i (OpenString a) (BadNumeral b) h g = absurd (quote_or_digit t i a h g.1)
FaultsAs-same t i (OpenComment a) (BadByte b) h g = absurd (g.2 h.1)
FaultsAs-same t i (OpenComment a) (OpenString b) h g = absurd (quote_or_comment t i b g h.1)
FaultsAs-same t i (OpenComment a) (OpenComment b) h g = ap (λ n. OpenComment n) (h.0 ∙ sym g.0)
FaultsAs-same t i (OpenComment a) (BadNumeral b) h g = absurd (comment_or_digit t i h.1 g.1)
FaultsAs-same t i (BadNumeral a) (BadByte b) h g = absurd (false≢true (sym g.3 ∙ h.1))
FaultsAs-same t i (BadNumeral a) (OpenString b) h g = absurd (quote_or_digit t i b g h.1)
FaultsAs-same t i (BadNumeral a) (OpenComment b) h g = absurd (comment_or_digit t i g.1 h.1)
FaultsAs-same t i (BadNumeral a) (BadNumeral b) h g = ap (λ n. BadNumeral n) (h.0 ∙ sym g.0)

-- the fault behind the blanks is one
pub IsNextFault-same : (d : Dialect) (t : List ℕ) (at : ℕ) (e f : LexFault) → IsNextFault d t at e → IsNextFault d t at f → e ≡ f
IsNextFault-same d t at e f h g =
    let from : g.from ≡ h.from = IsRun-same is_blank t at g.from h.from g.blanks h.blanks in
    FaultsAs-same t h.from e f h.fails.which (subst (λ n. FaultsAs t n f) from g.fails.which)

-- behind the blanks stands a token or there is a fault, never both
pub next_or_fault : (d : Dialect) (t : List ℕ) (at : ℕ) (p : Piece) (f : LexFault) → IsNext d t at p → IsNextFault d t at f → ⊥
next_or_fault d t at p f h g =
    let from : p.from ≡ g.from = IsRun-same is_blank t at p.from g.from h.blanks g.blanks in
    g.fails.none p.kind p.to (subst (λ n. IsToken d p.kind t n p.to) from h.token)

-- a text has one list of tokens and one end
pub HasTokens-same : (d : Dialect) (t : List ℕ) (at : ℕ) (ps qs : List Piece) (e f : Option LexFault) → HasTokens d t at ps e → HasTokens d t at qs f → (ps ≡ qs) × (e ≡ f)
HasTokens-same d t at ps qs e f (Ended _ p h is) (Ended _ q g _) =
    let same = IsNext-same d t at p q h g in (ap (λ x. x ∷ []) same, refl)
HasTokens-same d t at ps qs e f (Ended _ p h is) (Stopped _ x g) = absurd (next_or_fault d t at p x h g)
HasTokens-same d t at ps qs e f (Ended _ p h is) (Further _ q rest _ g other more) =
    let same = IsNext-same d t at p q h g in absurd (other (sym (ap (λ x. x.kind) same) ∙ is))
HasTokens-same d t at ps qs e f (Stopped _ x g) (Ended _ p h is) = absurd (next_or_fault d t at p x h g)
HasTokens-same d t at ps qs e f (Stopped _ x g) (Stopped _ y h) = (refl, ap (λ z. Some z) (IsNextFault-same d t at x y g h))
HasTokens-same d t at ps qs e f (Stopped _ x g) (Further _ p rest _ h other more) = absurd (next_or_fault d t at p x h g)
HasTokens-same d t at ps qs e f (Further _ q rest _ g other more) (Ended _ p h is) =
    let same = IsNext-same d t at p q h g in absurd (other (sym (ap (λ x. x.kind) same) ∙ is))
HasTokens-same d t at ps qs e f (Further _ p rest _ h other more) (Stopped _ x g) = absurd (next_or_fault d t at p x h g)
HasTokens-same d t at ps qs e f (Further _ p rest _ h other more) (Further _ q tail _ g next again) =
    let same = IsNext-same d t at q p g h in
    let place : q.to ≡ p.to = ap (λ x. x.to) same in
    let s = HasTokens-same d t p.to rest tail e f more (subst (λ n. HasTokens d t n tail f) place again) in
    (λ i. sym same i ∷ s.0 i, s.1)

-- the spans stand one behind the other
pub HasTokens-order : (d : Dialect) (t : List ℕ) (at : ℕ) (ps : List Piece) (f : Option LexFault) → HasTokens d t at ps f → AreInOrder at ps
HasTokens-order d t at ps f (Ended _ p h is) = (h.blanks.order, (IsToken-inside d p.kind t p.from p.to h.token).0, tt)
HasTokens-order d t at ps f (Stopped _ x g) = tt
HasTokens-order d t at ps f (Further _ p rest _ h other more) =
    (h.blanks.order, (IsToken-inside d p.kind t p.from p.to h.token).0, HasTokens-order d t p.to rest f more)

-- a token with the blanks before it, and what follows it
piece_split : (t : List ℕ) (at : ℕ) (p : Piece) (rest : List ℕ) → at ≤ p.from → p.from ≤ p.to → rest ≡ drop p.to t → slice_range t at p.from ++ slice_range t p.from p.to ++ rest ≡ drop at t
piece_split t at p rest a b e =
    append_assoc (slice_range t at p.from) (slice_range t p.from p.to) rest ∙ ap (λ s. slice_range t at p.from ++ (slice_range t p.from p.to ++ s)) e ∙ ap (λ s. slice_range t at p.from ++ s) (sym (drop_split t p.from p.to b)) ∙ sym (drop_split t at p.from a)

-- where no fault is met, the tokens and what stands between them, joined, are the text
pub HasTokens-joined : (d : Dialect) (t : List ℕ) (at : ℕ) (ps : List Piece) (f : Option LexFault) → f ≡ None → HasTokens d t at ps f → joined t at ps ≡ drop at t
HasTokens-joined d t at ps f none (Ended _ p h is) =
    let end : IsToken d End t p.from p.to = subst (λ k. IsToken d k t p.from p.to) is h.token in
    let last : [] ≡ drop p.to t = sym (ap (λ n. drop n t) (end.1 ∙ end.0) ∙ drop-length t) in
    piece_split t at p [] h.blanks.order (IsToken-inside d p.kind t p.from p.to h.token).0 last
HasTokens-joined d t at ps f none (Stopped _ x g) = cc
HasTokens-joined d t at ps f none (Further _ p rest _ h other more) =
    piece_split t at p (joined t p.to rest) h.blanks.order (IsToken-inside d p.kind t p.from p.to h.token).0 (HasTokens-joined d t p.to rest f none more)
