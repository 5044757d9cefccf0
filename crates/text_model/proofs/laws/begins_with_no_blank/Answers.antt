use Rattle.text_model.proofs.Beginnings.{begins_with_no_blank_lem}
use Rattle.text_model.proofs.laws.begins_with_no_blank.Goals as goal

pub returns-clause-some : goal.returns-clause-some
returns-clause-some c = λ m h. (begins_with_no_blank_lem m h).0

pub returns-clause-no_blank : goal.returns-clause-no_blank
returns-clause-no_blank c = λ m h. (begins_with_no_blank_lem m h).1
