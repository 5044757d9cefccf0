use Rattle.std.proofs.Common.{arith}
use Rattle.std.proofs.lemmas.Result.{err_from_is_err_and}
use Rattle.script_lang.proofs.PartWords.{inlining-count, inlining-none, inlining-said}
use Rattle.script_lang.proofs.requests.inline_method.Goals.{in_default-via-then-words-lt5, in_default-via-else-words-lt5+else-words-lt6}
use Rattle.script_lang.proofs.requests.inline_method.Goals as goal

pub returns-in_default-clause-wrong : goal.returns-in_default-clause-wrong
returns-in_default-clause-wrong c = λ _.
    elim c.in_default.branch [
      | in_default-via-then-words-lt5 w ↦ inlining-count c.args.words.now (λ e. grind (arith, e))
      | in_default-via-else-words-lt5+else-words-lt6 w ↦ inlining-count c.args.words.now (λ e. grind (arith, e))
    ]

pub returns-clause-said : goal.returns-clause-said
returns-clause-said c =
    inlining-said c.args.words.now _ _ _ _ _ (omega (arith, c.in-len5.len_at_least, c.in-len5.len_below)) c.method_part.new.names c.in_ok-part.part c.in_ok-part.ensures.said

pub returns-in_err-part-clause-wrong : goal.returns-in_err-part-clause-wrong
returns-in_err-part-clause-wrong c =
    let p = err_from_is_err_and c.from_residual.result c.from_residual.ensures.1 in
    rw (p.1, p.2) (λ e. inlining-none c.args.words.now _ _ _ _ _ (omega (arith, c.in-len5.len_at_least, c.in-len5.len_below)) (c.in_err-part.ensures.wrong e))
