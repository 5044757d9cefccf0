use Rattle.std.proofs.Common.{List, ap, ◌∙◌}
use Rattle.std.specs.List.{list_all}
use Rattle.std.proofs.lemmas.Result.{IfOk-weaker}
use Rattle.placed_nodes.specs.declared.placed.PlacedNode.{PlacedNode}
use Rattle.placed_nodes.specs.Placing.{placed}
use Rattle.inline_questions.specs.Kept.{is_kept}
use Rattle.inline_questions.proofs.capture.captures_nothing.Goals as goal

pub returns : goal.returns
returns c =
    let s = c.args.image.now in
    let call = c.args.call.now in
    IfOk-weaker c.are_kept.result _ _
    (λ is e. e ∙ ap (λ (fs : List PlacedNode). list_all (is_kept s call) (placed fs)) c.as_slice.ensures.value ∙ ap (list_all (is_kept s call)) c.in_ok-found.ensures)
    c.are_kept.ensures
