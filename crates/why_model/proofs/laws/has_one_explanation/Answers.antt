use Rattle.why_model.proofs.OneExplanation.{one-explanation}
use Rattle.why_model.proofs.laws.has_one_explanation.Goals as goal

pub returns : goal.returns
returns c = λ i script text other a b. one-explanation c.has_one_reading.ensures.requests i script text other a b
