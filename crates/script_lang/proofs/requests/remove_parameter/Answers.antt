use Rattle.std.proofs.Common.{sym, ◌∙◌, arith}
use Rattle.std.proofs.lemmas.Result.{err_from_is_err_and}
use Rattle.script_lang.proofs.Selectors.{removal-count, number-missing, removal-of-none, removal-to-none, removal-said}
use Rattle.script_lang.proofs.Growing.{number-grown}
use Rattle.script_lang.proofs.requests.remove_parameter.Goals.{in_default-via-then-words-lt3, in_default-via-else-words-lt3+else-words-lt4}
use Rattle.script_lang.proofs.requests.remove_parameter.Goals as goal

pub returns-in_default-clause-wrong : goal.returns-in_default-clause-wrong
returns-in_default-clause-wrong c = λ _.
    elim c.in_default.branch [
      | in_default-via-then-words-lt3 w ↦ removal-count c.args.words.now (λ e. grind (arith, e))
      | in_default-via-else-words-lt3+else-words-lt4 w ↦ removal-count c.args.words.now (λ e. grind (arith, e))
    ]

pub returns-in_default-number-clause-wrong : goal.returns-in_default-number-clause-wrong
returns-in_default-number-clause-wrong c = λ _. number-missing c.args.words.now _ (omega (arith, c.in-len3.len_at_least, c.in-len3.len_below)) (sym c.number.ensures ∙ c.in_default-number.is)

pub returns-clause-said : goal.returns-clause-said
returns-clause-said c =
    removal-said c.args.words.now _ _ _ (omega (arith, c.in-len3.len_at_least, c.in-len3.len_below)) c.selector.new.names c.selector-2.new.names c.in_ok-old.old c.in_ok-to.to c.in-Some.argument
    c.in_ok-old.ensures.known c.in_ok-to.ensures.grows c.in_ok-old.ensures.said (sym c.number.ensures ∙ c.in-Some.is) c.in_ok-to.ensures.said

pub returns-in_err-old-clause-wrong : goal.returns-in_err-old-clause-wrong
returns-in_err-old-clause-wrong c =
    let p = err_from_is_err_and c.from_residual.result c.from_residual.ensures.1 in
    rw (p.1, p.2) (λ e. removal-of-none c.args.words.now _ (omega (arith, c.in-len3.len_at_least, c.in-len3.len_below)) (c.in_err-old.ensures.wrong e))

pub returns-in_err-to-clause-wrong : goal.returns-in_err-to-clause-wrong
returns-in_err-to-clause-wrong c =
    let p = err_from_is_err_and c.from_residual-in_err-to.result c.from_residual-in_err-to.ensures.1 in
    rw (p.1, p.2) (λ e. removal-to-none c.args.words.now _ (omega (arith, c.in-len3.len_at_least, c.in-len3.len_below)) (c.in_err-to.ensures.wrong e))

pub returns-clause-known : goal.returns-clause-known
returns-clause-known c = (number-grown c.in_ok-to.ensures.grows c.in_ok-old.old c.in_ok-old.ensures.known, c.in_ok-to.ensures.known)
