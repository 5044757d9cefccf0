use Rattle.std.proofs.Common.{ap, rules, ◌∙◌}
use Rattle.std.specs.Prelude.{ℕ, filter}
use Rattle.std.proofs.lemmas.Fn.{filter_same}
use Rattle.tree_model.specs.Nodes.{Placed}
use Rattle.placed_nodes.specs.declared.placed.PlacedNode.{PlacedNode}
use Rattle.placed_nodes.specs.Placing.{placed}
use Rattle.parameter_questions.specs.Found.{is_sought}
use Rattle.parameter_questions.proofs.Kept.{mapped-filter}
use Rattle.parameter_questions.proofs.found.found_in.Goals as goal

pub returns : goal.returns
returns c =
    let test = is_sought c.args.what.now in
    ap placed (filter_same _ (λ (f : PlacedNode). test f.node.now) _ (λ x b f' k. search rules) _ _ c.retain.ensures.filtered)
    ∙ mapped-filter (λ (f : PlacedNode). (f.path, f.node.now)) (λ (e : Placed ℕ). test e.1) c.in_ok-found.found.items
    ∙ ap (filter (λ (e : Placed ℕ). test e.1)) c.in_ok-found.ensures
