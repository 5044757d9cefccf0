use Rattle.std.proofs.Common.{◌<◌, List, ℕ, length, sym, subst}
use Rattle.tree_model.specs.AllNames.{MethodNames}
use Rattle.st_tree.specs.View.{method_of}
use Rattle.abstract_plans.proofs.Made.{method-none, method-known, method-some}
use Rattle.abstract_plans.proofs.code.method_change.Goals as goal

pub returns-in_default-made : goal.returns-in_default-made
returns-in_default-made g c =
    method-none c.args.image c.args.abstraction.now c.args.slot c.in-Some.info c.in-Some-open_body.old c.in-Some.ensures c.in-Some-open_body.ensures.tree c.in_ok-made.made c.in_ok-made.ensures c.in_default-made.is

pub format_method-requires : goal.format_method-requires
format_method-requires g c =
    subst (λ (names : List (List ℕ)). MethodNames (λ n. n < length names) (method_of c.in-Some-made.tree)) (sym c.names.ensures)
    (method-known c.args.image c.args.abstraction.now c.args.slot c.in-Some.info c.in-Some-open_body.old c.in-Some.ensures c.in-Some-open_body.ensures.tree c.in_ok-made.made c.in_ok-made.ensures
    c.in-Some-made.tree c.in-Some-made.is c.requires.known)

pub returns : goal.returns
returns g c =
    method-some c.args.image c.args.abstraction.now c.args.slot c.in-Some.info c.in-Some-open_body.old c.in-Some.ensures c.in-Some-open_body.ensures.tree c.in_ok-made.made c.in_ok-made.ensures
    c.in-Some-made.tree c.in-Some-made.is
    c.in_ok-from_slice.field-0 c.format_method.new.out c.new-source.result c.names.result.now c.in_ok-from_slice.ensures c.new-source.ensures c.names.ensures c.in_ok-format_method.ensures.ok
