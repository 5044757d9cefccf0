use Rattle.query_model.proofs.OneAnswer.{one_answer}
use Rattle.query_model.proofs.laws.has_one_answer.Goals as goal

pub returns : goal.returns
returns c = one_answer
