use Rattle.std.proofs.Common.{arith}
use Rattle.std.proofs.lemmas.Result.{err_from_is_err_and}
use Rattle.script_lang.proofs.Selectors.{renaming-count, renaming-of-none, renaming-to-none, selector-said}
use Rattle.script_lang.proofs.Growing.{number-grown}
use Rattle.script_lang.proofs.requests.rename_selector.Goals.{in_default-via-then-words-lt2, in_default-via-else-words-lt2+else-words-lt3}
use Rattle.script_lang.proofs.requests.rename_selector.Goals as goal

pub returns-in_default-clause-wrong : goal.returns-in_default-clause-wrong
returns-in_default-clause-wrong c = λ _.
    elim c.in_default.branch [
      | in_default-via-then-words-lt2 w ↦ renaming-count c.args.words.now (λ e. grind (arith, e))
      | in_default-via-else-words-lt2+else-words-lt3 w ↦ renaming-count c.args.words.now (λ e. grind (arith, e))
    ]

pub returns-clause-said : goal.returns-clause-said
returns-clause-said c =
    selector-said c.selector.new.names c.selector-2.new.names c.in_ok-old.old c.in_ok-old.ensures.known c.in_ok-to.ensures.grows c.args.words.now _ _ c.in_ok-to.to (omega (arith, c.in-len2.len_at_least, c.in-len2.len_below))
    c.in_ok-old.ensures.said c.in_ok-to.ensures.said

pub returns-in_err-old-clause-wrong : goal.returns-in_err-old-clause-wrong
returns-in_err-old-clause-wrong c =
    let p = err_from_is_err_and c.from_residual.result c.from_residual.ensures.1 in
    rw (p.1, p.2) (λ e. renaming-of-none c.args.words.now _ (omega (arith, c.in-len2.len_at_least, c.in-len2.len_below)) (c.in_err-old.ensures.wrong e))

pub returns-in_err-to-clause-wrong : goal.returns-in_err-to-clause-wrong
returns-in_err-to-clause-wrong c =
    let p = err_from_is_err_and c.from_residual-in_err-to.result c.from_residual-in_err-to.ensures.1 in
    rw (p.1, p.2) (λ e. renaming-to-none c.args.words.now _ (omega (arith, c.in-len2.len_at_least, c.in-len2.len_below)) (c.in_err-to.ensures.wrong e))

pub returns-clause-known : goal.returns-clause-known
returns-clause-known c = (number-grown c.in_ok-to.ensures.grows c.in_ok-old.old c.in_ok-old.ensures.known, c.in_ok-to.ensures.known)
