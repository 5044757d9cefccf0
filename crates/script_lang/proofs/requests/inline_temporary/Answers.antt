use Rattle.std.proofs.Common.{arith}
use Rattle.std.proofs.lemmas.Result.{err_from_is_err_and}
use Rattle.script_lang.proofs.MethodWords.{inlined-count, inlined-in-none, inlined-of-none, inlined-said}
use Rattle.script_lang.proofs.Growing.{number-grown}
use Rattle.script_lang.proofs.requests.inline_temporary.Goals.{in_default-via-then-words-lt4, in_default-via-else-words-lt4+else-words-lt5}
use Rattle.script_lang.proofs.requests.inline_temporary.Goals as goal

pub returns-in_default-clause-wrong : goal.returns-in_default-clause-wrong
returns-in_default-clause-wrong c = λ _.
    elim c.in_default.branch [
      | in_default-via-then-words-lt4 w ↦ inlined-count c.args.words.now (λ e. grind (arith, e))
      | in_default-via-else-words-lt4+else-words-lt5 w ↦ inlined-count c.args.words.now (λ e. grind (arith, e))
    ]

pub returns-clause-said : goal.returns-clause-said
returns-clause-said c =
    inlined-said c.args.words.now _ _ _ _ (omega (arith, c.in-len4.len_at_least, c.in-len4.len_below)) c.method_name.new.names c.identifier.new.names
    c.in_ok-method.method c.in_ok-variable.variable c.in_ok-variable.ensures.grows c.in_ok-method.ensures.known c.in_ok-method.ensures.said c.in_ok-variable.ensures.said

pub returns-in_err-method-clause-wrong : goal.returns-in_err-method-clause-wrong
returns-in_err-method-clause-wrong c =
    let p = err_from_is_err_and c.from_residual.result c.from_residual.ensures.1 in
    rw (p.1, p.2) (λ e. inlined-in-none c.args.words.now _ _ _ (omega (arith, c.in-len4.len_at_least, c.in-len4.len_below)) (c.in_err-method.ensures.wrong e))

pub returns-in_err-variable-clause-wrong : goal.returns-in_err-variable-clause-wrong
returns-in_err-variable-clause-wrong c =
    let p = err_from_is_err_and c.from_residual-in_err-variable.result c.from_residual-in_err-variable.ensures.1 in
    rw (p.1, p.2) (λ e. inlined-of-none c.args.words.now _ (omega (arith, c.in-len4.len_at_least, c.in-len4.len_below)) (c.in_err-variable.ensures.wrong e))

pub returns-clause-known : goal.returns-clause-known
returns-clause-known c =
    (number-grown c.in_ok-variable.ensures.grows c.in_ok-method.method.class c.in_ok-method.ensures.known.0, number-grown c.in_ok-variable.ensures.grows c.in_ok-method.method.selector c.in_ok-method.ensures.known.1, c.in_ok-variable.ensures.known)
