use Rattle.law_examples.proofs.PatternsMatched.{matches_right, rewritings_right, spellings_right}
use Rattle.law_examples.proofs.laws.matches_pattern_examples.Goals as goal

pub returns-clause-matched : goal.returns-clause-matched
returns-clause-matched c = matches_right

pub returns-clause-rewritten : goal.returns-clause-rewritten
returns-clause-rewritten c = rewritings_right

pub returns-clause-spelled : goal.returns-clause-spelled
returns-clause-spelled c = spellings_right
