use Rattle.mapped_model.proofs.RenamedVariableLemmas.{instance-matched, class_side-matched}
use Rattle.mapped_model.proofs.laws.law_renamed_variable.Goals as goal

pub returns-clause-instance : goal.returns-clause-instance
returns-clause-instance g = λ r i j c old new classes selectors ordered may h. instance-matched r i j c old new classes selectors ordered may h

pub returns-clause-class_side : goal.returns-clause-class_side
returns-clause-class_side g = λ r i j c old new classes selectors ordered may h. class_side-matched r i j c old new classes selectors ordered may h
