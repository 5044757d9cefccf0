use Rattle.image_maker.specs.Generated.{command_lines}
use Rattle.image_maker.proofs.Pieces.{none_behind, one_more}
use Rattle.image_maker.proofs.script.push_all_commands.Goals as goal

pub loop-number-init : goal.loop-number-init
loop-number-init c = none_behind command_lines c.args.out.now

pub loop-number-preserved : goal.loop-number-preserved
loop-number-preserved c = one_more command_lines c.loop-number.number c.args.out.now c.loop-number.out c.push_commands.new.out c.loop-number.invariant c.in_ok-push_commands.ensures
