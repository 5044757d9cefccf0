use Rattle.image_maker.specs.Generated.{definition_text}
use Rattle.image_maker.proofs.Pieces.{none_behind, one_more}
use Rattle.image_maker.proofs.image.push_definitions.Goals as goal

pub loop-number-init : goal.loop-number-init
loop-number-init c = none_behind definition_text c.args.out.now

pub loop-number-preserved : goal.loop-number-preserved
loop-number-preserved c = one_more definition_text c.loop-number.number c.args.out.now c.loop-number.out c.push_definition.new.out c.loop-number.invariant c.in_ok-push_definition.ensures
