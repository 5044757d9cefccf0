use Rattle.command_model.specs.Asked.{text_asked}
use Rattle.command_model.specs.Commands.{InlineTemp}
use Rattle.command_model.specs.Effects.{effect}
use Rattle.let_laws.proofs.InlineCommand.{inline-unfolds}
use Rattle.let_laws.proofs.laws.law_inlined_temporary.Goals as goal

pub returns-clause-unfolds : goal.returns-clause-unfolds
returns-clause-unfolds g = λ writing i c meta s x named once formed form kept free. inline-unfolds g.law_control_sends.ensures writing i c meta s x named once formed form kept free

pub returns-clause-matched : goal.returns-clause-matched
returns-clause-matched g = λ writing i c meta s x named once formed form kept free.
    let u = inline-unfolds g.law_control_sends.ensures writing i c meta s x named once formed form kept free in
    let j = effect text_asked writing (InlineTemp c meta s x) i in
    (g.law_unfolded_call.ensures.unfolded i j u, g.law_unfolded_call.ensures.folded i j u)
