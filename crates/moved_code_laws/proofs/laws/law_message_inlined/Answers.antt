use Rattle.command_model.specs.Asked.{text_asked}
use Rattle.command_model.specs.Commands.{InlineMethod}
use Rattle.command_model.specs.Effects.{effect}
use Rattle.moved_code_laws.proofs.MessageInlined.{message-unfolds}
use Rattle.moved_code_laws.proofs.laws.law_message_inlined.Goals as goal

pub returns : goal.returns
returns g = λ writing i c meta s from to sound none.
    let unfolds = message-unfolds g.law_control_sends.ensures writing i c meta s from to sound none in
    (g.law_unfolded_call.ensures.unfolded i (effect text_asked writing (InlineMethod c meta s from to) i) unfolds, g.law_unfolded_call.ensures.folded i (effect text_asked writing (InlineMethod c meta s from to) i) unfolds)
