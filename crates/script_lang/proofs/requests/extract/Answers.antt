use Rattle.std.proofs.Common.{arith}
use Rattle.std.proofs.lemmas.Result.{err_from_is_err_and}
use Rattle.script_lang.specs.declared.verb.ExtractVerb.TheVariants as extract
use Rattle.script_lang.proofs.PartWords.{extract-count, extract-of-none, extract-to-none, extract-said}
use Rattle.script_lang.proofs.Growing.{number-grown}
use Rattle.script_lang.proofs.requests.extract.Goals.{in_default-via-then-words-lt6, in_default-via-else-words-lt6+else-words-lt7}
use Rattle.script_lang.proofs.requests.extract.Goals as goal

pub returns-in_default-clause-wrong : goal.returns-in_default-clause-wrong
returns-in_default-clause-wrong c = λ _.
    elim c.in_default.branch [
      | in_default-via-then-words-lt6 w ↦ extract-count c.args.verb c.args.words.now (λ e. grind (arith, e))
      | in_default-via-else-words-lt6+else-words-lt7 w ↦ extract-count c.args.verb c.args.words.now (λ e. grind (arith, e))
    ]

pub returns-in_ok-to-in-Method-clause-said : goal.returns-in_ok-to-in-Method-clause-said
returns-in_ok-to-in-Method-clause-said c =
    rw c.in-Method.is
    (extract-said extract.Method c.args.words.now _ _ _ _ _ _ (omega (arith, c.in-len6.len_at_least, c.in-len6.len_below)) c.method_part.new.names c.selector.new.names
    c.in_ok-part.part c.in_ok-to-in-Method.to c.in_ok-to-in-Method.ensures.grows c.in_ok-part.ensures.known c.in_ok-part.ensures.said c.in_ok-to-in-Method.ensures.said)

pub returns-in_ok-variable-in-Temporary-clause-said : goal.returns-in_ok-variable-in-Temporary-clause-said
returns-in_ok-variable-in-Temporary-clause-said c =
    rw c.in-Temporary.is
    (extract-said extract.Temporary c.args.words.now _ _ _ _ _ _ (omega (arith, c.in-len6.len_at_least, c.in-len6.len_below)) c.method_part.new.names c.identifier.new.names
    c.in_ok-part.part c.in_ok-variable-in-Temporary.variable c.in_ok-variable-in-Temporary.ensures.grows c.in_ok-part.ensures.known c.in_ok-part.ensures.said c.in_ok-variable-in-Temporary.ensures.said)

pub returns-in_err-part-clause-wrong : goal.returns-in_err-part-clause-wrong
returns-in_err-part-clause-wrong c =
    let p = err_from_is_err_and c.from_residual.result c.from_residual.ensures.1 in
    rw (p.1, p.2) (λ e. extract-of-none c.args.verb c.args.words.now _ _ _ _ _ (omega (arith, c.in-len6.len_at_least, c.in-len6.len_below)) (c.in_err-part.ensures.wrong e))

pub returns-in_err-to-in-Method-clause-wrong : goal.returns-in_err-to-in-Method-clause-wrong
returns-in_err-to-in-Method-clause-wrong c =
    let p = err_from_is_err_and c.from_residual-in_err-to-in-Method.result c.from_residual-in_err-to-in-Method.ensures.1 in
    rw (p.1, p.2, c.in-Method.is) (λ e. extract-to-none extract.Method c.args.words.now _ (omega (arith, c.in-len6.len_at_least, c.in-len6.len_below)) (c.in_err-to-in-Method.ensures.wrong e))

pub returns-in_err-variable-in-Temporary-clause-wrong : goal.returns-in_err-variable-in-Temporary-clause-wrong
returns-in_err-variable-in-Temporary-clause-wrong c =
    let p = err_from_is_err_and c.from_residual-in_err-variable-in-Temporary.result c.from_residual-in_err-variable-in-Temporary.ensures.1 in
    rw (p.1, p.2, c.in-Temporary.is) (λ e. extract-to-none extract.Temporary c.args.words.now _ (omega (arith, c.in-len6.len_at_least, c.in-len6.len_below)) (c.in_err-variable-in-Temporary.ensures.wrong e))

pub returns-in_ok-to-in-Method-clause-known : goal.returns-in_ok-to-in-Method-clause-known
returns-in_ok-to-in-Method-clause-known c =
    (number-grown c.in_ok-to-in-Method.ensures.grows c.in_ok-part.part.method.class c.in_ok-part.ensures.known.0, number-grown c.in_ok-to-in-Method.ensures.grows c.in_ok-part.part.method.selector c.in_ok-part.ensures.known.1, c.in_ok-to-in-Method.ensures.known)

pub returns-in_ok-variable-in-Temporary-clause-known : goal.returns-in_ok-variable-in-Temporary-clause-known
returns-in_ok-variable-in-Temporary-clause-known c =
    (number-grown c.in_ok-variable-in-Temporary.ensures.grows c.in_ok-part.part.method.class c.in_ok-part.ensures.known.0, number-grown c.in_ok-variable-in-Temporary.ensures.grows c.in_ok-part.part.method.selector c.in_ok-part.ensures.known.1, c.in_ok-variable-in-Temporary.ensures.known)
