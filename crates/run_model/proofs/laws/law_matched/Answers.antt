use Rattle.run_model.proofs.MatchedLemmas.{matched-same, matched-trans}
use Rattle.run_model.proofs.laws.law_matched.Goals as goal

pub returns-clause-itself : goal.returns-clause-itself
returns-clause-itself g = λ i. matched-same i

pub returns-clause-composed : goal.returns-clause-composed
returns-clause-composed g = λ i j k r q p is m n. matched-trans r q p is i j k m n
