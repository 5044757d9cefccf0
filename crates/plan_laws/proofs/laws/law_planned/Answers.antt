use Rattle.class_table.specs.View.{number_image}
use Rattle.command_model.specs.PartsOfText.{parts_of_text}
use Rattle.commands.specs.Views.{self_in}
use Rattle.plan_laws.specs.Planned.{renaming}
use Rattle.plan_laws.proofs.After.{shape-kept}
use Rattle.plan_laws.proofs.Whole.{plan-can, plan-fit, plan-effect, plan-names, plan-orderly, plan-touched}
use Rattle.plan_laws.proofs.laws.law_planned.Goals as goal

pub returns-clause-can : goal.returns-clause-can
returns-clause-can c = λ s what to places may. plan-can s what to places may (c.numbers_of_commands.ensures.effect s.names (self_in s.names) parts_of_text (number_image s) (renaming what to) (may.orderly).names_known may.known (shape-kept what to))

pub returns-clause-fit : goal.returns-clause-fit
returns-clause-fit c = λ s what to places may. plan-fit s what to places may (c.numbers_of_commands.ensures.effect s.names (self_in s.names) parts_of_text (number_image s) (renaming what to) (may.orderly).names_known may.known (shape-kept what to))

pub returns-clause-effect : goal.returns-clause-effect
returns-clause-effect c = λ s what to places may. plan-effect s what to places may (c.numbers_of_commands.ensures.effect s.names (self_in s.names) parts_of_text (number_image s) (renaming what to) (may.orderly).names_known may.known (shape-kept what to))

pub returns-clause-names : goal.returns-clause-names
returns-clause-names c = λ s what to places may. plan-names s what to places may (c.numbers_of_commands.ensures.effect s.names (self_in s.names) parts_of_text (number_image s) (renaming what to) (may.orderly).names_known may.known (shape-kept what to))

pub returns-clause-orderly : goal.returns-clause-orderly
returns-clause-orderly c = λ s what to places may. plan-orderly s what to places may (c.numbers_of_commands.ensures.effect s.names (self_in s.names) parts_of_text (number_image s) (renaming what to) (may.orderly).names_known may.known (shape-kept what to))

pub returns-clause-touched : goal.returns-clause-touched
returns-clause-touched c = λ s what to places may. plan-touched s what to places may (c.numbers_of_commands.ensures.effect s.names (self_in s.names) parts_of_text (number_image s) (renaming what to) (may.orderly).names_known may.known (shape-kept what to))
