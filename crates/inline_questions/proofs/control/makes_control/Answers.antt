use Rattle.std.proofs.Common.{◌≡◌, false, not, ◌&&◌, Option, Some, ℕ, ap, sym, ◌∙◌}
use Rattle.std.specs.Option.{option_map_or}
use Rattle.std.proofs.lemmas.Result.{IfOk-weaker}
use Rattle.tree_model.specs.Tree.{TreeOf}
use Rattle.tree_model.specs.Path.{part_in, with_child}
use Rattle.scope_model.specs.NameTests.{form_in}
use Rattle.scope_model.specs.Control.{is_control}
use Rattle.st_tree.specs.View.{method_of}
use Rattle.inline_questions.proofs.Above.{asked-above}
use Rattle.inline_questions.proofs.control.makes_control.Goals as goal

pub returns : goal.returns
returns c =
    let form = form_in c.args.names.now in
    let m = method_of c.args.method.now in
    let k = c.in-Some.step.now in
    let t = c.args.node.now in
    let above = c.in-Some-part_at.above.now in
    let there : part_in m.body c.in-Some.before.now ≡ Some above =
    ap (part_in m.body) (sym (c.from_vec-before.ensures ∙ c.in_ok-from_slice.ensures.items)) ∙ sym c.in-Some-part_at.ensures in
    let no : is_control form above ≡ false = sym c.is_control.ensures ∙ c.if-is_control.false in
    let told =
    asked-above form m c.in-Some.before.now k t c.args.path.now (sym c.as_slice.ensures ∙ c.in-Some.ensures.cases.0)
    ∙ ap (λ (o : Option (TreeOf ℕ)). option_map_or (λ u. not (is_control form u) && is_control form (with_child u k t)) o false) there
    ∙ (λ i. not (no i) && is_control form (with_child above k t)) in
    IfOk-weaker c.is_control_with.result _ _ (λ is e. e ∙ sym told) c.is_control_with.ensures
