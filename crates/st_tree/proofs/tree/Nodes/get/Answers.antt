use Rattle.std.proofs.Common.{rules}
use Rattle.st_tree.proofs.Places.{nth-trees_of}
use Rattle.st_tree.proofs.tree.Nodes.get.Goals as goal

pub returns : goal.returns
returns c = search (rules, nth-trees_of)
