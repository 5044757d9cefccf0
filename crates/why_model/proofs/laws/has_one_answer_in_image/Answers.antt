use Rattle.why_model.proofs.OneAnswer.{one-in}
use Rattle.why_model.proofs.laws.has_one_answer_in_image.Goals as goal

pub returns : goal.returns
returns c = λ i script s t sent other a b.
    one-in c.has_one_reading.ensures.requests c.has_one_reading.ensures.not_both c.has_one_reading.ensures.refusal i script s t sent other a b
