use Rattle.std.proofs.Common.{refl}
use Rattle.rewrite_model.proofs.laws.judges_rewriting_examples.Goals as goal

pub returns-clause-matched : goal.returns-clause-matched
returns-clause-matched c = refl

pub returns-clause-rewritten : goal.returns-clause-rewritten
returns-clause-rewritten c = refl

pub returns-clause-unchanged : goal.returns-clause-unchanged
returns-clause-unchanged c = refl
