use Rattle.method_questions.proofs.SameCode.{told-same}
use Rattle.method_questions.proofs.same.same_node.Goals as goal

pub returns : goal.returns
returns c = told-same c.same.result c.args.node.now c.args.other.now c.same.ensures
