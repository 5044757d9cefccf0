use Rattle.std.proofs.Common.{ℕ, ◌≤◌, length, Result, Ok, Err, IfOk}
use Rattle.token_model.specs.Tokens.{IsToken}
use Rattle.token_model.specs.declared.kind.Dialect.TheVariants.{Second}
use Rattle.token_model.specs.declared.kind.TokenKind.{TokenKind}
use Rattle.token_model.specs.declared.fault.LexFault.{LexFault}
use Rattle.token_model.proofs.Spans.{IsToken-inside}
use Rattle.st_lexer.proofs.next.token_inside.Goals as goal

-- what follows from a fact on the found token
IfOk-map : (r : Result (TokenKind × ℕ) LexFault) (P Q : TokenKind × ℕ → Type 0) → ((x : TokenKind × ℕ) → P x → Q x) → IfOk r P → IfOk r Q
IfOk-map (Ok x) P Q f h = f x h
IfOk-map (Err e) P Q f h = tt

pub returns-clause-order : goal.returns-clause-order
returns-clause-order c =
    let t = c.args.text.now in
    let from = c.args.from in
    IfOk-map c.token_at.result (λ x. IsToken Second x.0 t from x.1) (λ x. from ≤ x.1) (λ x h. (IsToken-inside Second x.0 t from x.1 h).0) c.token_at.ensures.token

pub returns-clause-inside : goal.returns-clause-inside
returns-clause-inside c =
    let t = c.args.text.now in
    let from = c.args.from in
    IfOk-map c.token_at.result (λ x. IsToken Second x.0 t from x.1) (λ x. x.1 ≤ length t) (λ x h. (IsToken-inside Second x.0 t from x.1 h).1) c.token_at.ensures.token
