use Rattle.command_model.proofs.EffectsBeside.{effect-beside, effect-left}
use Rattle.command_model.proofs.laws.law_doit_beside.Goals as goal

pub returns-clause-beside : goal.returns-clause-beside
returns-clause-beside g c = λ a writing i e command. effect-beside a writing i e command

pub returns-clause-left : goal.returns-clause-left
returns-clause-left g c = λ a writing i e command leaves. effect-left a writing i e command leaves
