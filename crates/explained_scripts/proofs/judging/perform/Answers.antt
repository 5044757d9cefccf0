use Rattle.session.specs.History.{history_of}
use Rattle.explained_scripts.specs.Refused.{command_text}
use Rattle.explained_scripts.proofs.RefusedSteps.{done-single}
use Rattle.explained_scripts.proofs.judging.perform.Goals as goal

pub returns-in-Ok-clause-done : goal.returns-in-Ok-clause-done
returns-in-Ok-clause-done g c =
    done-single (history_of c.args.image.now c.args.session.now) (history_of c.step.new.image c.step.new.self) (command_text c.args.image.now c.args.command) c.in-Ok.ensures.done
