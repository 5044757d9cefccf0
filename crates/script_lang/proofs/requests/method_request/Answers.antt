use Rattle.std.proofs.Common.{arith}
use Rattle.std.proofs.lemmas.Result.{err_from_is_err_and}
use Rattle.script_lang.proofs.MethodWords.{method-count, method-none, method-said}
use Rattle.script_lang.proofs.requests.method_request.Goals.{in_default-via-then-words-lt3, in_default-via-else-words-lt3+else-words-lt4}
use Rattle.script_lang.proofs.requests.method_request.Goals as goal

pub returns-in_default-clause-wrong : goal.returns-in_default-clause-wrong
returns-in_default-clause-wrong c = λ _.
    elim c.in_default.branch [
      | in_default-via-then-words-lt3 w ↦ method-count c.args.verb c.args.words.now (λ e. grind (arith, e))
      | in_default-via-else-words-lt3+else-words-lt4 w ↦ method-count c.args.verb c.args.words.now (λ e. grind (arith, e))
    ]

pub returns-clause-said : goal.returns-clause-said
returns-clause-said c =
    rw c.method_command.ensures
    (method-said c.args.verb c.args.words.now _ _ _ (omega (arith, c.in-len3.len_at_least, c.in-len3.len_below)) c.method_name.new.names c.in_ok-method.method c.in_ok-method.ensures.said)

pub returns-in_err-method-clause-wrong : goal.returns-in_err-method-clause-wrong
returns-in_err-method-clause-wrong c =
    let p = err_from_is_err_and c.from_residual.result c.from_residual.ensures.1 in
    rw (p.1, p.2) (λ e. method-none c.args.verb c.args.words.now _ _ _ (omega (arith, c.in-len3.len_at_least, c.in-len3.len_below)) (c.in_err-method.ensures.wrong e))
