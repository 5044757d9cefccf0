use Rattle.std.proofs.Common.{sym, ap, ◌∙◌, refl}
use Rattle.std.proofs.lemmas.Result.{err_from_is_err_and}
use Rattle.st_tree.specs.View.{method_of}
use Rattle.script_model.specs.Additions.{Faulty, Incomplete}
use Rattle.script_lang.specs.Shown.{addition_shown}
use Rattle.script_lang.proofs.Growing.{number-grown}
use Rattle.script_lang.proofs.AddedMethods.{added}
use Rattle.script_lang.proofs.additions.add_method.Goals as goal

pub returns-in_err-tree-clause-wrong : goal.returns-in_err-tree-clause-wrong
returns-in_err-tree-clause-wrong c =
    let p = err_from_is_err_and c.from_residual-in_err-tree.result c.from_residual-in_err-tree.ensures.1 in
    rw (p.1, p.2) (λ e.
    let w = c.in_err-tree.ensures.wrong e in
    Faulty _ w.0 (sym c.addition_of.ensures ∙ ap addition_shown c.in-Some.is) w.1 refl)

pub returns-clause-said : goal.returns-clause-said
returns-clause-said c =
    added _ c.in_ok-class.class c.in_ok-protocol.protocol c.in_ok-source.source (method_of c.in_ok-tree.tree) (sym c.addition_of.ensures ∙ ap addition_shown c.in-Some.is) c.in_ok-tree.ensures.grows
    c.in_ok-class.ensures.known c.in_ok-class.ensures.text c.in_ok-protocol.ensures c.in_ok-source.ensures c.in_ok-tree.ensures.tree

pub returns-in_default-clause-wrong : goal.returns-in_default-clause-wrong
returns-in_default-clause-wrong c = λ _. Incomplete (sym c.addition_of.ensures ∙ ap addition_shown c.in_default.is) refl

pub returns-clause-known : goal.returns-clause-known
returns-clause-known c = (number-grown c.in_ok-tree.ensures.grows c.in_ok-class.class c.in_ok-class.ensures.known, c.in_ok-tree.ensures.known)

pub returns-in_err-class-clause-wrong : goal.returns-in_err-class-clause-wrong
returns-in_err-class-clause-wrong c =
    let p = err_from_is_err_and c.from_residual.result c.from_residual.ensures.1 in
    rw (p.1, p.2) (λ e. absurd (cc))

pub returns-in_err-protocol-clause-wrong : goal.returns-in_err-protocol-clause-wrong
returns-in_err-protocol-clause-wrong c =
    let p = err_from_is_err_and c.from_residual-in_err-protocol.result c.from_residual-in_err-protocol.ensures.1 in
    rw (p.1, p.2) (λ e. absurd (cc))

pub returns-in_err-source-clause-wrong : goal.returns-in_err-source-clause-wrong
returns-in_err-source-clause-wrong c =
    let p = err_from_is_err_and c.from_residual-in_err-source.result c.from_residual-in_err-source.ensures.1 in
    rw (p.1, p.2) (λ e. absurd (cc))
