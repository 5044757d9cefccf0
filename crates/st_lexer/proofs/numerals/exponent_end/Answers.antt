use Rattle.token_model.specs.Tokens.{Scaled}
use Rattle.st_lexer.proofs.numerals.exponent_end.Goals as goal

pub returns-in-Some : goal.returns-in-Some
returns-in-Some c = Scaled _ c.in-Some.ensures.some c.digits_end.ensures.run
