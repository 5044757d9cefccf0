use Rattle.token_model.proofs.OneToken.{IsToken-same}
use Rattle.token_model.proofs.laws.has_at_most_one_token.Goals as goal

pub returns : goal.returns
returns c = IsToken-same
