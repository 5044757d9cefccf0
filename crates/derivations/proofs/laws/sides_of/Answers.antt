use Rattle.std.proofs.Common.{sym, ◌∙◌}
use Rattle.certificates.specs.Shown.{step_shown}
use Rattle.derivations.proofs.LawSides.{no_left, no_right}
use Rattle.derivations.proofs.laws.sides_of.Goals as goal

pub returns-in_default : goal.returns-in_default
returns-in_default c = no_left c.args.names.now (step_shown c.args.step.now) (sym c.in_default.is ∙ c.in_ok-left.ensures)

pub returns-in_default-2 : goal.returns-in_default-2
returns-in_default-2 c = no_right c.args.names.now (step_shown c.args.step.now) (sym c.in_default-2.is ∙ c.in_ok-right.ensures)
