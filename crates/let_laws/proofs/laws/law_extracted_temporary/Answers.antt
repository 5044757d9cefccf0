use Rattle.command_model.specs.Asked.{text_asked}
use Rattle.command_model.specs.Commands.{ExtractTemp}
use Rattle.command_model.specs.Effects.{effect}
use Rattle.let_laws.proofs.ExtractCommand.{extract-unfolds}
use Rattle.let_laws.proofs.laws.law_extracted_temporary.Goals as goal

pub returns-clause-unfolds : goal.returns-clause-unfolds
returns-clause-unfolds g = λ writing i c meta s from to x named once part first good free. extract-unfolds g.law_control_sends.ensures writing i c meta s from to x named once part first good free

pub returns-clause-matched : goal.returns-clause-matched
returns-clause-matched g = λ writing i c meta s from to x named once part first good free.
    let u = extract-unfolds g.law_control_sends.ensures writing i c meta s from to x named once part first good free in
    let j = effect text_asked writing (ExtractTemp c meta s from to x) i in
    (g.law_unfolded_call.ensures.folded j i u, g.law_unfolded_call.ensures.unfolded j i u)
