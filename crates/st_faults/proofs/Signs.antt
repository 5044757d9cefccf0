-- Whether a numeral begins where a token ends is told by one byte.
use Rattle.std.proofs.Common.{◌≡◌, ℕ, ◌+◌, ◌⊎◌, inl, inr, Bool, true, false, ◌&&◌, List, None, refl, sym, ◌∙◌, ap, subst, arith, get_or}
use Rattle.std.specs.Prelude.{Option, ◌==◌, slice_index}
use Rattle.std.proofs.lemmas.Bool.{false≢true, cases_lt, cases_Bool}
use Rattle.std.proofs.lemmas.Bool.Decides.{nat_tests}
use Rattle.token_model.specs.Bytes.{is_digit, is_blank, Has, IsRun}
use Rattle.token_model.specs.Tokens.{IsToken}
use Rattle.token_model.specs.TokenLists.{Piece, IsNext}
use Rattle.token_model.specs.declared.kind.Dialect.TheVariants.{Second}
use Rattle.token_model.specs.declared.kind.TokenKind.{TokenKind}
use Rattle.token_model.specs.declared.kind.TokenKind.TheVariants.{Numeral}
use Rattle.token_model.specs.declared.fault.LexFault.{LexFault}
use Rattle.token_model.proofs.Leads.{normal, lead_of_token, lead-digit, same_normal}
use Rattle.grammar_model.specs.Terminal.{Text}
use Rattle.grammar_model.specs.Whole.{Form, DoIt, Method, PatternText}
use Rattle.grammar_model.specs.Lexemes.{is_numeral, begins_numeral}
use Rattle.grammar_model.specs.PatternTokens.{mark_at, MayMark, IsNextOf, HasTokensOf}
use Rattle.grammar_model.proofs.FormTokens.{TokensOf, EndsHere, StopsHere, GoesOn, tokens_of}

-- a digit is no blank
digit-blank : (b : ℕ) → is_digit b ≡ true → is_blank b ≡ false
digit-blank b h = grind (arith, nat_tests)

-- before a digit stand no blanks
no_blanks : (t : Text) (at from : ℕ) → IsRun is_blank t at from → is_digit (get_or t at 0) ≡ true → from ≡ at
no_blanks t at from blanks digit = elim (cases_lt at from) [
  | inl some ↦ absurd (false≢true (sym (digit-blank (get_or t at 0) digit) ∙ blanks.all at (omega arith) some))
  | inr none ↦ omega (arith, blanks.order)
]

-- a token that begins with a digit is a numeral
digit_kind : (t : Text) (k : TokenKind) (i j : ℕ) → IsToken Second k t i j → is_digit (get_or t i 0) ≡ true → k ≡ Numeral
digit_kind t k i j token digit =
    let e : normal k ≡ Numeral = sym (lead_of_token Second k t i j token) ∙ lead-digit (get_or t i 0) (get_or t (i + 1) 0) digit in
    elim (same_normal k Numeral e) [
      | inl same ↦ same
      | inr other ↦ cc (other.1)
    ]

-- a kind is that of numerals, or not
numeral_or_other : (k : TokenKind) → ((k ≡ Numeral) × (is_numeral k ≡ true)) ⊎ (is_numeral k ≡ false)
numeral_or_other Numeral = inl (refl, refl)
numeral_or_other k = inr refl

-- two places are one, or not
same_place : (p : ℕ) (at : ℕ) → ((p == at) ≡ true) × (p ≡ at) ⊎ ((p == at) ≡ false)
same_place p at = grind (arith, nat_tests)

-- where no digit stands, no numeral begins
no_numeral : (t : Text) (at : ℕ) (p : Piece) → IsNext Second t at p → is_digit (get_or t at 0) ≡ false → (is_numeral p.kind && (p.from == at)) ≡ false
no_numeral t at p next other = elim (numeral_or_other p.kind) [
  | inr e ↦ rw e refl
  | inl e ↦ elim (same_place p.from at) [
    | inr f ↦ rw (e.1, f) refl
    | inl f ↦
        let token : IsToken Second Numeral t at p.to = subst (λ i. IsToken Second Numeral t i p.to) f.1 (subst (λ k. IsToken Second k t p.from p.to) e.0 next.token) in
        absurd (false≢true (sym other ∙ token.digits.0))
  ]
]

-- where a digit stands, a numeral begins
a_numeral : (t : Text) (at : ℕ) (p : Piece) → IsNext Second t at p → is_digit (get_or t at 0) ≡ true → (is_numeral p.kind && (p.from == at)) ≡ true
a_numeral t at p next digit =
    let from = no_blanks t at p.from next.blanks digit in
    let kind = digit_kind t p.kind p.from p.to next.token (ap (λ i. is_digit (get_or t i 0)) from ∙ digit) in
    rw kind (grind (arith, nat_tests))

-- a numeral begins exactly where a digit stands
one_numeral : (t : Text) (at : ℕ) (p : Piece) (b : Bool) → IsNext Second t at p → is_digit (get_or t at 0) ≡ b → (is_numeral p.kind && (p.from == at)) ≡ b
one_numeral t at p true next digit = a_numeral t at p next digit
one_numeral t at p false next other = no_numeral t at p next other

-- a metavariable is no numeral
meta_kind : (k : TokenKind) (b : ℕ) → MayMark b k → is_numeral k ≡ false
meta_kind Numeral b h = absurd h
meta_kind k b h = refl

-- where a metavariable comes next stands no digit
no_digit : (t : Text) (at from : ℕ) → IsRun is_blank t at from → Has t from 96 → is_digit (get_or t at 0) ≡ false
no_digit t at from blanks quote = elim (cases_Bool (is_digit (get_or t at 0))) [
  | inr other ↦ other
  | inl digit ↦ absurd (false≢true (sym (ap is_digit quote) ∙ ap (λ i. is_digit (get_or t i 0)) (no_blanks t at from blanks digit) ∙ digit))
]

-- in a text of any form a numeral comes next exactly where a digit stands
next_numeral : (form : Form) (t : Text) (at : ℕ) (p : Piece) → IsNextOf form Second t at p → (is_numeral p.kind && (p.from == at)) ≡ is_digit (get_or t at 0)
next_numeral DoIt t at p next = one_numeral t at p (is_digit (get_or t at 0)) next refl
next_numeral (Method kernel) t at p next = one_numeral t at p (is_digit (get_or t at 0)) next refl
next_numeral PatternText t at p next = elim next.token [
  | inl token ↦ one_numeral t at p (is_digit (get_or t at 0)) (record { blanks = next.blanks; token = token }) refl
  | inr meta ↦ ap (λ b. b && (p.from == at)) (meta_kind p.kind (get_or t (mark_at t p.from) 0) meta.mark) ∙ sym (no_digit t at p.from next.blanks meta.quote)
]

-- in a text without fault a numeral begins where a digit stands
numeral_listed : (form : Form) (t : Text) (at : ℕ) (ps : List Piece) (fault : Option LexFault) → fault ≡ None → TokensOf form Second t at ps fault → begins_numeral at ps ≡ is_digit (slice_index t at)
numeral_listed form t at ps fault none (EndsHere p next end) = next_numeral form t at p next
numeral_listed form t at ps fault none (StopsHere f next) = cc
numeral_listed form t at ps fault none (GoesOn p rest _ next other more) = next_numeral form t at p next

-- in a text without fault a numeral begins where a digit stands
pub begins_numeral-digit : (form : Form) (t : Text) (at : ℕ) (ps : List Piece) → HasTokensOf form Second t at ps None → begins_numeral at ps ≡ is_digit (slice_index t at)
begins_numeral-digit form t at ps h = numeral_listed form t at ps None refl (tokens_of form Second t at ps None h)
