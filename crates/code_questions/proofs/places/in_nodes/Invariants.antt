use Rattle.std.proofs.Common.{◌≡◌, drop}
use Rattle.std.specs.List.{list_any}
use Rattle.mentions.specs.Listing.{pointed}
use Rattle.code_questions.specs.Questions.{in_node}
use Rattle.code_questions.proofs.places.in_nodes.Given as goal

abbrev pub invariant-loop-node : goal.invariant-loop-node
invariant-loop-node l = list_any (in_node l.what l.name) (pointed (drop l.node-index l.nodes)) ≡ list_any (in_node l.what l.name) (pointed l.nodes)
