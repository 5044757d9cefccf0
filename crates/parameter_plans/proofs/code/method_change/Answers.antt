use Rattle.std.proofs.Common.{◌≡◌, ◌<◌, true, List, ℕ, length, sym, subst, rules}
use Rattle.tree_model.specs.AllNames.{MethodNames}
use Rattle.st_tree.specs.View.{method_of}
use Rattle.parameter_plans.proofs.Made.{method-known, method-some}
use Rattle.parameter_plans.proofs.code.method_change.Goals as goal

pub format_method-requires : goal.format_method-requires
format_method-requires g c =
    let spoken : c.in_ok-spoken.spoken ≡ true = search rules in
    subst (λ (names : List (List ℕ)). MethodNames (λ n. n < length names) (method_of c.change_method.new.method)) (sym c.names.ensures)
    (method-known c.args.image c.args.parameter.now c.args.slot c.in-Some.info c.in-Some-open_body.tree c.in-Some.ensures c.in-Some-open_body.ensures.tree
    c.selector.result c.in_ok-spoken.spoken c.selector.ensures c.in_ok-spoken.ensures c.in_ok-tree.tree c.change_method.new.method spoken c.in_ok-tree.ensures c.in_ok-change_method.ensures
    (c.law_known.ensures c.args.image.now c.args.parameter.now c.requires.orderly c.requires.known))

pub returns : goal.returns
returns g c =
    let spoken : c.in_ok-spoken.spoken ≡ true = search rules in
    method-some c.args.image c.args.parameter.now c.args.slot c.in-Some.info c.in-Some-open_body.tree c.in-Some.ensures c.in-Some-open_body.ensures.tree
    c.selector.result c.in_ok-spoken.spoken c.selector.ensures c.in_ok-spoken.ensures c.in_ok-tree.tree c.change_method.new.method spoken c.in_ok-tree.ensures c.in_ok-change_method.ensures
    c.in_ok-from_slice.field-0 c.format_method.new.out c.new-source.result c.names.result.now c.in_ok-from_slice.ensures c.new-source.ensures c.names.ensures c.in_ok-format_method.ensures.ok
