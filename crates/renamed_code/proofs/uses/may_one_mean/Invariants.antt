use Rattle.std.proofs.Common.{◌≡◌, drop}
use Rattle.std.specs.List.{list_any}
use Rattle.mentions.specs.Listing.{pointed}
use Rattle.renamed_code.specs.ChangedCode.{renamed_of}
use Rattle.renamed_code.specs.Renamings.{may_mean}
use Rattle.renamed_code.proofs.uses.may_one_mean.Given as goal

abbrev pub invariant-loop-node : goal.invariant-loop-node
invariant-loop-node l = list_any (may_mean (renamed_of l.what)) (pointed (drop l.node-index l.nodes)) ≡ list_any (may_mean (renamed_of l.what)) (pointed l.nodes)
