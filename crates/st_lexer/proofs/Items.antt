-- What the calls of a reader give are the tokens of its text.
use Rattle.std.proofs.Common.{◌≡◌, ◌≢◌, ℕ, ◌<◌, ◌≤◌, ◌⊎◌, inl, inr, Bool, true, false, List, [], ◌∷◌, Some, None, Result, Ok, Err, length, refl, sym, ◌∙◌, ap, subst, arith}
use Rattle.std.specs.Iterator.{Yields}
use Rattle.std.proofs.lemmas.Bool.{false≢true}
use Rattle.token_model.specs.TokenLists.{Piece, IsNext, HasTokens, Ended, Stopped, Further}
use Rattle.token_model.specs.declared.kind.Dialect.TheVariants.{Second}
use Rattle.token_model.specs.declared.kind.TokenKind.{TokenKind}
use Rattle.token_model.specs.declared.kind.TokenKind.TheVariants.{End}
use Rattle.token_model.specs.declared.fault.LexFault.{LexFault}
use Rattle.token_model.proofs.Spans.{IsToken-inside, IsToken-some}
use Rattle.st_lexer.specs.declared.token.Token.{Token}
use Rattle.st_lexer.specs.Pieces.{piece}
use Rattle.st_lexer.specs.Unread.{Unread}
use Rattle.st_lexer.specs.Given.{is_end, Gives, left, pieces, first_fault}

-- a kind is that of the end, or it is not
end_or_not : (kind : TokenKind) → ((kind ≡ End) × (is_end kind ≡ true)) ⊎ ((kind ≢ End) × (is_end kind ≡ false))
end_or_not End = inl (refl, refl)
end_or_not kind = inr (λ e. cc, refl)

-- a token leaves fewer items to come
pub left-less : (t : List ℕ) (at : ℕ) (p : Piece) (was over : Bool) → at ≤ length t → was ≡ false → IsNext Second t at p → over ≡ is_end p.kind → left (record { text = t; at = p.to; over = over }) < left (record { text = t; at = at; over = was })
left-less t at p true over le unread next is = absurd (false≢true (sym unread))
left-less t at p false true le unread next is = omega arith
left-less t at p false false le unread next is = elim (end_or_not p.kind) [
  | inl (kind, end) ↦ absurd (false≢true (is ∙ end))
  | inr (other, _) ↦ omega (arith, IsToken-some Second p.kind t p.from p.to next.token other, (IsToken-inside Second p.kind t p.from p.to next.token).1, next.blanks.order)
]

-- a reader that is over gives nothing
nothing_more : (s u : Unread) (items : List (Result Token LexFault)) → s.over ≡ true → Yields Gives s items u → items ≡ []
nothing_more s u [] over h = refl
nothing_more s u (Ok token ∷ items) over h = absurd (false≢true (sym h.1.0 ∙ over))
nothing_more s u (Err fault ∷ items) over h = absurd (false≢true (sym h.1.0 ∙ over))

-- from where a reader stands that is not over it gives the tokens behind
pub Yields-tokens : (items : List (Result Token LexFault)) (s u last : Unread) → s.over ≡ false → Yields Gives s items u → Gives u None last → HasTokens Second s.text s.at (pieces items) (first_fault items)
Yields-tokens [] s u last over h end = absurd (false≢true (sym over ∙ ap (λ x. x.over) h ∙ end.0))
Yields-tokens (Err fault ∷ items) s u last over (j, step, more) end =
    let none : items ≡ [] = nothing_more j u items (ap (λ x. x.over) step.2) more in
    subst (λ ps. HasTokens Second s.text s.at ps (Some fault)) (ap pieces (sym none)) (Stopped s.at fault step.1)
Yields-tokens (Ok token ∷ items) s u last over (j, step, more) end = elim (end_or_not token.kind) [
  | inl (kind, is) ↦
      let none : items ≡ [] = nothing_more j u items (ap (λ x. x.over) step.3 ∙ is) more in
      subst (λ rest. HasTokens Second s.text s.at (piece token ∷ pieces rest) (first_fault rest)) (sym none) (Ended s.at (piece token) step.1 kind)
  | inr (kind, is) ↦
      let next = Yields-tokens items j u last (ap (λ x. x.over) step.3 ∙ is) more end in
      let text : j.text ≡ s.text = ap (λ x. x.text) step.3 in
      let at : j.at ≡ token.to = ap (λ x. x.at) step.3 in
      Further s.at (piece token) (pieces items) (first_fault items) step.1 kind (subst (λ n. HasTokens Second s.text n (pieces items) (first_fault items)) at (subst (λ t. HasTokens Second t j.at (pieces items) (first_fault items)) text next))
]
