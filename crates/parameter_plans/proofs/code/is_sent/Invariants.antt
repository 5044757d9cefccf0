use Rattle.std.proofs.Common.{◌≡◌, drop, nat_eq}
use Rattle.std.specs.List.{list_any}
use Rattle.tree_model.specs.Nodes.{nodes}
use Rattle.st_tree.specs.View.{sequence_of}
use Rattle.image_model.specs.Uses.{is_sender}
use Rattle.mentions.specs.Listing.{pointed}
use Rattle.parameter_plans.proofs.code.is_sent.Given as goal

abbrev pub invariant-loop-node : goal.invariant-loop-node
invariant-loop-node l = list_any (is_sender nat_eq l.selector) (pointed (drop l.node-index l.node-items)) ≡ list_any (λ e. is_sender nat_eq l.selector e.1) (nodes (sequence_of l.body))
