use Rattle.std.proofs.Common.{refl, arith}
use Rattle.std.proofs.lemmas.Fmt.{decimal_digit}
use Rattle.text_examples.proofs.laws.writes_methods.Goals as goal

pub returns-clause-methods : goal.returns-clause-methods
returns-clause-methods c = refl

pub returns-clause-primitive : goal.returns-clause-primitive
returns-clause-primitive c = rw (decimal_digit 7 (omega arith)) refl
