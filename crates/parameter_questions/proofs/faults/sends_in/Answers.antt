use Rattle.std.proofs.Common.{ℕ, not, List, length, ap, ◌∙◌}
use Rattle.std.specs.Prelude.{◌==◌, nat_eq}
use Rattle.tree_model.specs.Nodes.{Placed, nodes}
use Rattle.image_model.specs.Uses.{is_sender}
use Rattle.st_tree.specs.View.{sequence_of}
use Rattle.placed_nodes.specs.declared.placed.PlacedNode.{PlacedNode}
use Rattle.parameter_questions.proofs.Kept.{any-counted}
use Rattle.parameter_questions.proofs.faults.sends_in.Goals as goal

pub returns : goal.returns
returns c =
    ap not c.is_empty.ensures
    ∙ ap (λ (fs : List PlacedNode). not (length fs == 0)) c.as_slice.ensures.value
    ∙ any-counted (λ (f : PlacedNode). (f.path, f.node.now)) (λ (e : Placed ℕ). is_sender nat_eq c.args.selector e.1) c.in_ok-found.found.items (nodes (sequence_of c.args.body.now)) c.in_ok-found.ensures
