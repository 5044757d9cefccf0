-- The first line of a script that is refused.
use Rattle.std.specs.Prelude.{◌≡◌, ◌+◌, List, ◌∷◌, ◌++◌, length, map, Option, Some, None, Ok, Err}
use Rattle.rb_base.specs.Names.{name_at}
use Rattle.command_numbers.specs.MappedCommands.{map_condition}
use Rattle.commands.specs.Views.{condition_of}
use Rattle.certificates.specs.Shown.{step_shown}
use Rattle.rule_model.specs.RuleCommands.{Unmet, Derived}
use Rattle.history_model.specs.History.{stepped}
use Rattle.history_model.specs.Verdicts.{judged_from}
use Rattle.ruled_model.specs.RuledScripts.{Line, History, Refusal, ruled}
use Rattle.script_model.specs.Makers.{Text}
use Rattle.applied_scripts.specs.declared.lines.Stop.{Stop}
use Rattle.applied_scripts.specs.declared.lines.Stop.TheVariants as stop

-- the refusal that is told, over the texts of its names; want of memory tells none
abbrev pub refusal_shown : List Text → Stop → Option Refusal
refusal_shown names (stop.Refused number c) = Some (record { number = number; condition = Unmet (map_condition (name_at names) (condition_of c)) })
refusal_shown names (stop.NotDerived number c) = Some (record { number = number; condition = Derived (map step_shown c.steps.items) })
refusal_shown names stop.Memory = None

-- lines stop in a history: those before this one are accepted, and make another history of it, in which this one is refused
pub record StopsAt (h : History) (lines : List Line) (refusal : Refusal) (g : History) : Type 0 where
  pub before : List Line
  pub line : Line
  pub after : List Line
  pub parts : lines ≡ before ++ line ∷ after
  pub numbered : refusal.number ≡ length before + 1
  pub accepted : judged_from ruled 1 h before ≡ Ok g
  pub refused : stepped ruled g line ≡ Err refusal.condition
