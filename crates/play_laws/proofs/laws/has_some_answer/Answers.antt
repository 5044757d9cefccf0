use Rattle.token_model.specs.declared.kind.Dialect.TheVariants.{Second}
use Rattle.play_laws.proofs.SomeAnswer.{some}
use Rattle.play_laws.proofs.laws.has_some_answer.Goals as goal

pub returns : goal.returns
returns c = λ image_line text log. some image_line text log (c.every_text_is_read_or_refused.ensures Second text) (c.has_one_log.ensures.either log)
