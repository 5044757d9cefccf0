use Rattle.token_model.specs.declared.kind.Dialect.TheVariants.{Second}
use Rattle.apply_laws.proofs.SomeAnswer.{some}
use Rattle.apply_laws.proofs.laws.has_some_answer.Goals as goal

pub returns : goal.returns
returns c = λ image_line text script. some image_line text script (c.every_text_is_read_or_refused.ensures Second text) (c.has_one_reading.ensures.either script)
