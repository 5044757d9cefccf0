use Rattle.std.proofs.Common.{◌≡◌, ℕ, ◌<◌, length, sym, ap, subst, ◌∙◌}
use Rattle.std.proofs.lemmas.Result.{IfOk-weaker}
use Rattle.tree_model.specs.Tree.{MethodOf}
use Rattle.tree_model.specs.AllNames.{MethodNames}
use Rattle.tree_model.specs.Normal.{normal}
use Rattle.st_tree.specs.View.{method_of}
use Rattle.st_tree.specs.declared.tree.Method.{Method}
use Rattle.command_model.specs.Asked.{no_parts}
use Rattle.command_model.specs.Numbers.{number_asked}
use Rattle.command_model.specs.Sequences.{sequence_changed}
use Rattle.command_model.specs.Temporaries.{temporary_inlined}
use Rattle.command_model.specs.Walk.{rebuilt_method}
use Rattle.let_code.specs.declared.inlining.Valuing.{Valuing}
use Rattle.let_code.specs.declared.inlining.Leaving.{Leaving}
use Rattle.let_code.specs.Changes.{without}
use Rattle.let_code.specs.Lets.{let_as}
use Rattle.let_code.specs.Valuing.{valued}
use Rattle.let_code.proofs.KnownLets.{inlined-known}
use Rattle.let_code.proofs.inlining.temporary_inlined.Goals as goal

pub returns-clause-known : goal.returns-clause-known
returns-clause-known c =
    let names = c.args.names.now in
    let m = method_of c.args.method.now in
    let e = let_as c.args.assignment.now in
    let it : Valuing = record { names = c.args.names; method = c.args.method; variable = c.args.variable; value = c.args.assignment.now.value } in
    let leaving : Leaving = record { variable = c.args.variable; number = c.args.assignment.now.number } in
    let made : method_of c.remake_method.new.method ≡ rebuilt_method (valued it) m = c.in_ok-remake_method.ensures ∙ ap (λ (n : Method). rebuilt_method (valued it) (method_of n)) c.in_ok-after.ensures in
    let changed : method_of c.change_sequence.new.method ≡ temporary_inlined (number_asked names 0 no_parts) m c.args.variable e =
    c.in_ok-change_sequence.ensures ∙ ap (λ (n : MethodOf ℕ). sequence_changed (without leaving) e.sequence n) made in
    IfOk-weaker c.normalized.result _ _
    (λ after is a v. subst (λ (n : MethodOf ℕ). MethodNames (λ k. k < length names) n) (sym (is ∙ ap normal changed)) (inlined-known (λ k. k < length names) names m c.args.variable e a v))
    c.normalized.ensures
