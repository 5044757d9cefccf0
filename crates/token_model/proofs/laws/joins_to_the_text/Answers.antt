use Rattle.std.proofs.Common.{None, refl}
use Rattle.token_model.proofs.Lists.{HasTokens-order, HasTokens-joined}
use Rattle.token_model.proofs.laws.joins_to_the_text.Goals as goal

pub returns-clause-in_order : goal.returns-clause-in_order
returns-clause-in_order c = HasTokens-order

pub returns-clause-joined : goal.returns-clause-joined
returns-clause-joined c = λ d t at tokens h. HasTokens-joined d t at tokens None refl h
