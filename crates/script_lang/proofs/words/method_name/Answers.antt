use Rattle.std.proofs.Common.{sym, ◌∙◌}
use Rattle.std.proofs.lemmas.Result.{err_from_is_err_and}
use Rattle.script_lang.proofs.MethodWords.{no-class, no-side, no-selector}
use Rattle.script_lang.proofs.words.method_name.Goals as goal

pub returns-in_default-clause-wrong : goal.returns-in_default-clause-wrong
returns-in_default-clause-wrong c = λ _. no-side c.args.class.now c.args.of_side.now c.args.of_selector.now (sym c.side.ensures ∙ c.in_default.is)

pub returns-in_err-class-clause-wrong : goal.returns-in_err-class-clause-wrong
returns-in_err-class-clause-wrong c =
    let p = err_from_is_err_and c.from_residual.result c.from_residual.ensures.1 in
    rw (p.1, p.2) (λ e. no-class c.args.class.now c.args.of_side.now c.args.of_selector.now (c.in_err-class.ensures.wrong e))

pub returns-in_err-selector-clause-wrong : goal.returns-in_err-selector-clause-wrong
returns-in_err-selector-clause-wrong c =
    let p = err_from_is_err_and c.from_residual-in_err-selector.result c.from_residual-in_err-selector.ensures.1 in
    rw (p.1, p.2) (λ e. no-selector c.args.class.now c.args.of_side.now c.args.of_selector.now (c.in_err-selector.ensures.wrong e))
