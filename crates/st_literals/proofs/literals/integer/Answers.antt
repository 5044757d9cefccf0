use Rattle.std.proofs.Common.{FitsSigned, ap, ◌∙◌, rules}
use Rattle.std.specs.Int.{w64}
use Rattle.std.proofs.lemmas.Int.{to_z-of_z}
use Rattle.run_model.specs.Values.{int_value}
use Rattle.st_literals.proofs.Arms.{integer_some, integer_none}
use Rattle.st_literals.proofs.literals.integer.Goals as goal

pub returns-in-Some : goal.returns-in-Some
returns-in-Some c = λ s.
    let f : FitsSigned w64 c.in-Some.number = search rules in
    integer_some _ c.in-Some.number _ s (c.new.ensures ∙ ap int_value (to_z-of_z w64 c.in-Some.number f)) c.in-Some.ensures

pub returns-in-None : goal.returns-in-None
returns-in-None c = λ s. integer_none _ s c.in-None.ensures
