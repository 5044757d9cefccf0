use Rattle.std.proofs.Common.{ap, ◌∙◌}
use Rattle.commands.specs.Views.{self_in}
use Rattle.code_conditions.proofs.targets.target_passes.Goals as goal

pub are_actuals_plain-requires-clause-self_name : goal.are_actuals_plain-requires-clause-self_name
are_actuals_plain-requires-clause-self_name c = c.self_name.ensures ∙ ap self_in c.names.ensures
