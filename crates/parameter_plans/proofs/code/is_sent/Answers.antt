use Rattle.std.proofs.Common.{ℕ, List, Bor, nat_eq, ap, ◌∙◌}
use Rattle.std.specs.List.{list_any}
use Rattle.tree_model.specs.Tree.{TreeOf}
use Rattle.tree_model.specs.Nodes.{nodes}
use Rattle.st_tree.specs.View.{sequence_of}
use Rattle.image_model.specs.Uses.{is_sender}
use Rattle.mentions.specs.Listing.{pointed}
use Rattle.parameter_plans.proofs.Made.{any-node}
use Rattle.parameter_plans.proofs.code.is_sent.Goals as goal

pub loop-node-init : goal.loop-node-init
loop-node-init c =
    ap (λ (ns : List (Bor (TreeOf ℕ))). list_any (is_sender nat_eq c.args.selector) (pointed ns)) c.as_slice-node-items.ensures.value
    ∙ ap (list_any (is_sender nat_eq c.args.selector)) c.in_ok-nodes.ensures
    ∙ any-node (is_sender nat_eq c.args.selector) (nodes (sequence_of c.args.body.now))
