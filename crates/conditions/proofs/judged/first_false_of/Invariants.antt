use Rattle.std.proofs.Common.{◌≡◌, ◌<◌, length, map, drop, find, not}
use Rattle.std.specs.List.{AllByRecursion}
use Rattle.class_table.specs.View.{number_image}
use Rattle.command_model.specs.Holds.{holds}
use Rattle.command_numbers.specs.CommandNames.{ConditionNames}
use Rattle.commands.specs.Views.{asked_by, command_of, condition_of}
use Rattle.conditions.proofs.judged.first_false_of.Given as goal

abbrev pub invariant-loop-condition : goal.invariant-loop-condition
invariant-loop-condition g l = record {
  known : AllByRecursion (λ c. ConditionNames (λ n. n < length l.image.names) (condition_of c)) (drop l.condition-index l.conditions);
  first : find (λ c. not (holds (asked_by l.image.names) (number_image l.image) (command_of l.command) c)) (map condition_of (drop l.condition-index l.conditions))
      ≡ find (λ c. not (holds (asked_by l.image.names) (number_image l.image) (command_of l.command) c)) (map condition_of l.conditions);
}
