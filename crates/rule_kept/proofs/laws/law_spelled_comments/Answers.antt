use Rattle.rule_kept.proofs.SpelledComments.{spelled_comments}
use Rattle.rule_kept.proofs.laws.law_spelled_comments.Goals as goal

pub returns : goal.returns
returns c = spelled_comments
