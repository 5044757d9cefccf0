use Rattle.std.proofs.Common.{◌≢◌, ℕ, inl, sym, subst, refl, Result, IfOk}
use Rattle.std.specs.Prelude.{IfErr}
use Rattle.std.proofs.lemmas.Result.{IfOk-weaker}
use Rattle.token_model.specs.TokenLists.{IsNext, IsNextFault}
use Rattle.token_model.specs.declared.kind.Dialect.TheVariants.{Second}
use Rattle.token_model.specs.declared.fault.LexFault.{LexFault}
use Rattle.st_lexer.specs.declared.token.Token.{Token}
use Rattle.st_lexer.specs.Pieces.{piece}
use Rattle.grammar_model.specs.Terminal.{Text}
use Rattle.grammar_model.specs.PatternTokens.{IsPatternNext, IsNextOf, IsNextFaultOf}
use Rattle.st_faults.specs.declared.form.TextForm.{TextForm}
use Rattle.st_faults.specs.declared.form.TextForm.TheVariants.{DoIt, Method, Pattern}
use Rattle.st_faults.specs.Forms.{form_of}
use Rattle.st_faults.proofs.metas.token_from.Goals as goal

-- in a text that is no pattern no metavariable is a token
token_plain : (form : TextForm) (t : Text) (at : ℕ) (r : Result Token LexFault) → form ≢ Pattern → IfOk r (λ token. IsNext Second t at (piece token)) → IfOk r (λ token. IsNextOf (form_of form) Second t at (piece token))
token_plain DoIt t at r other h = h
token_plain (Method kernel) t at r other h = h
token_plain Pattern t at r other h = absurd (other refl)

-- nor does one take a fault away
fault_plain : (form : TextForm) (t : Text) (at : ℕ) (r : Result Token LexFault) → form ≢ Pattern → IfErr r (IsNextFault Second t at) → IfErr r (IsNextFaultOf (form_of form) Second t at)
fault_plain DoIt t at r other h = h
fault_plain (Method kernel) t at r other h = h
fault_plain Pattern t at r other h = absurd (other refl)

pub returns-in_default : goal.returns-in_default
returns-in_default c = record {
  token = token_plain c.args.form c.args.text.now c.args.at c.next_token-token.result c.in_default.not-Pattern c.next_token-token.ensures.token;
  text = c.next_token-token.ensures.text;
  inside = c.next_token-token.ensures.inside;
  fault = fault_plain c.args.form c.args.text.now c.args.at c.next_token-token.result c.in_default.not-Pattern c.next_token-token.ensures.fault;
}

pub returns-in-Err-clause-token : goal.returns-in-Err-clause-token
returns-in-Err-clause-token c = subst (λ form. IfOk c.meta_token.result (λ token. IsNextOf (form_of form) Second c.args.text.now c.args.at (piece token))) (sym c.in-Pattern.is) c.meta_token.ensures.token

pub returns-in-Err-clause-fault : goal.returns-in-Err-clause-fault
returns-in-Err-clause-fault c = subst (λ form. IfErr c.meta_token.result (IsNextFaultOf (form_of form) Second c.args.text.now c.args.at)) (sym c.in-Pattern.is) c.meta_token.ensures.fault

pub returns-in_default-token-clause-token : goal.returns-in_default-token-clause-token
returns-in_default-token-clause-token c =
    let plain : IfOk c.next_token-token.result (λ token. IsPatternNext Second c.args.text.now c.args.at (piece token)) =
    IfOk-weaker c.next_token-token.result _ _ (λ token next. record { blanks = next.blanks; token = inl next.token }) c.next_token-token.ensures.token in
    subst (λ form. IfOk c.next_token-token.result (λ token. IsNextOf (form_of form) Second c.args.text.now c.args.at (piece token))) (sym c.in-Pattern.is) plain
