use Rattle.command_model.specs.Asked.{text_asked}
use Rattle.command_model.specs.Commands.{ExtractMethod}
use Rattle.command_model.specs.Effects.{effect}
use Rattle.moved_code_laws.proofs.PartExtracted.{part-unfolds}
use Rattle.moved_code_laws.proofs.laws.law_part_extracted.Goals as goal

pub returns : goal.returns
returns g = λ writing i c meta s from to t sound none.
    let unfolds = part-unfolds g.law_control_sends.ensures writing i c meta s from to t sound none in
    (g.law_unfolded_call.ensures.folded (effect text_asked writing (ExtractMethod c meta s from to t) i) i unfolds, g.law_unfolded_call.ensures.unfolded (effect text_asked writing (ExtractMethod c meta s from to t) i) i unfolds)
