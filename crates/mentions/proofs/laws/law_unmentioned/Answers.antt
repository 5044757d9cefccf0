use Rattle.mentions.proofs.Unmentioned.{sequence-unmentioned, method-unmentioned}
use Rattle.mentions.proofs.laws.law_unmentioned.Goals as goal

pub returns-clause-sequence : goal.returns-clause-sequence
returns-clause-sequence g c = λ same b old new equal absent. sequence-unmentioned same equal old new b absent

pub returns-clause-method : goal.returns-clause-method
returns-clause-method g c = λ same m old new equal absent. method-unmentioned same equal old new m absent
