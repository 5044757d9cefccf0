use Rattle.rewrite_model.proofs.OneList.{one_lines}
use Rattle.rewrite_model.proofs.laws.has_one_list_of_lines.Goals as goal

pub returns : goal.returns
returns c = one_lines
