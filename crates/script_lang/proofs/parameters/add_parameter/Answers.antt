use Rattle.std.proofs.Common.{sym, ap, ◌∙◌, refl}
use Rattle.std.proofs.lemmas.Result.{err_from_is_err_and}
use Rattle.event_trees.proofs.Known.{Grows-twice}
use Rattle.script_model.specs.Parameters.{Wordless}
use Rattle.script_lang.specs.Passing.{parameter_shown}
use Rattle.script_lang.proofs.Growing.{number-grown}
use Rattle.script_lang.proofs.PassedLiterals.{no-literal, passed-said}
use Rattle.script_lang.proofs.parameters.add_parameter.Goals as goal

pub returns-in_err-passed-clause-wrong : goal.returns-in_err-passed-clause-wrong
returns-in_err-passed-clause-wrong c =
    let p = err_from_is_err_and c.from_residual-in_err-passed.result c.from_residual-in_err-passed.ensures.1 in
    rw (p.1, p.2) (λ e. no-literal _ (sym c.parameter_of.ensures ∙ ap parameter_shown c.in-Some.is) (c.in_err-passed.ensures.wrong e))

pub returns-clause-said : goal.returns-clause-said
returns-clause-said c =
    passed-said _ (sym c.parameter_of.ensures ∙ ap parameter_shown c.in-Some.is) c.in_ok-selector.selector c.in_ok-to.to c.in_ok-name.name c.in_ok-passed.passed
    c.in_ok-to.ensures.grows c.in_ok-name.ensures.grows c.in_ok-passed.ensures.grows c.in_ok-selector.ensures.known c.in_ok-to.ensures.known c.in_ok-name.ensures.known
    c.in_ok-selector.ensures.text c.in_ok-to.ensures.text c.in_ok-name.ensures.text c.in_ok-passed.ensures.said

pub returns-in_default-clause-wrong : goal.returns-in_default-clause-wrong
returns-in_default-clause-wrong c = λ _. Wordless (sym c.parameter_of.ensures ∙ ap parameter_shown c.in_default.is) refl

pub returns-in_err-selector-clause-wrong : goal.returns-in_err-selector-clause-wrong
returns-in_err-selector-clause-wrong c =
    let p = err_from_is_err_and c.from_residual.result c.from_residual.ensures.1 in
    rw (p.1, p.2) (λ e. absurd (cc))

pub returns-in_err-to-clause-wrong : goal.returns-in_err-to-clause-wrong
returns-in_err-to-clause-wrong c =
    let p = err_from_is_err_and c.from_residual-in_err-to.result c.from_residual-in_err-to.ensures.1 in
    rw (p.1, p.2) (λ e. absurd (cc))

pub returns-in_err-name-clause-wrong : goal.returns-in_err-name-clause-wrong
returns-in_err-name-clause-wrong c =
    let p = err_from_is_err_and c.from_residual-in_err-name.result c.from_residual-in_err-name.ensures.1 in
    rw (p.1, p.2) (λ e. absurd (cc))

pub returns-clause-known : goal.returns-clause-known
returns-clause-known c =
    let twice = Grows-twice c.in_ok-name.ensures.grows c.in_ok-passed.ensures.grows in
    (number-grown (Grows-twice c.in_ok-to.ensures.grows twice) c.in_ok-selector.selector c.in_ok-selector.ensures.known, number-grown twice c.in_ok-to.to c.in_ok-to.ensures.known, number-grown c.in_ok-passed.ensures.grows c.in_ok-name.name c.in_ok-name.ensures.known, c.in_ok-passed.ensures.known)
