use Rattle.parameter_questions.proofs.Answered.{none-high}
use Rattle.parameter_questions.proofs.answers.is_shallow_speaking.Goals as goal

pub returns : goal.returns
returns g c = none-high c.args.image.now c.args.selector c.in_ok-found.found c.in_ok-found.ensures
