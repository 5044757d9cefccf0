use Rattle.rewritten_code.proofs.Matching.{answer_found, answer_lower}
use Rattle.rewritten_code.proofs.rewriting.bindings_at.Goals as goal

pub returns-clause-found : goal.returns-clause-found
returns-clause-found c = answer_found c.args.names.now c.args.pattern.now c.args.node.now c.match_at.result c.len.ensures.distinct c.requires.pattern c.requires.node c.match_at.ensures

pub returns-clause-lower : goal.returns-clause-lower
returns-clause-lower c = answer_lower c.args.names.now c.args.pattern.now c.args.node.now c.match_at.result c.match_at.ensures
