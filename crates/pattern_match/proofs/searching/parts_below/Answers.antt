use Rattle.pattern_match.proofs.Searched.{parts_low}
use Rattle.pattern_match.proofs.searching.parts_below.Goals as goal

pub returns-clause-lower : goal.returns-clause-lower
returns-clause-lower c = parts_low c.args.node.now c.nodes_below.result c.nodes_below.ensures
