use Rattle.token_model.proofs.Begins.{lists}
use Rattle.token_model.proofs.Lists.{HasTokens-same}
use Rattle.token_model.proofs.laws.has_one_list.Goals as goal

pub returns-clause-some : goal.returns-clause-some
returns-clause-some c = lists

pub returns-clause-one : goal.returns-clause-one
returns-clause-one c = HasTokens-same
