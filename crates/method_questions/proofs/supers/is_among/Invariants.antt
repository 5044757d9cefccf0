use Rattle.std.proofs.Common.{◌≡◌, drop}
use Rattle.std.specs.List.{list_any}
use Rattle.mentions.specs.Listing.{pointed}
use Rattle.commands.specs.Views.{asked_by}
use Rattle.method_questions.specs.Supers.{is_sought}
use Rattle.method_questions.proofs.supers.is_among.Given as goal

abbrev pub invariant-loop-node : goal.invariant-loop-node
invariant-loop-node l =
    list_any (is_sought (asked_by l.names).is_super l.sought) (pointed (drop l.node-index l.nodes)) ≡ list_any (is_sought (asked_by l.names).is_super l.sought) (pointed l.nodes)
