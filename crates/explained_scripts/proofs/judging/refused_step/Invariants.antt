use Rattle.std.proofs.Common.{◌≡◌, ◌+◌, ◌<◌, suc, length, map}
use Rattle.std.specs.List.{AllByRecursion}
use Rattle.std.specs.Vec.Iter.{into_iter_items}
use Rattle.class_table.specs.View.{image_of}
use Rattle.command_numbers.specs.CommandNames.{CommandNames}
use Rattle.commands.specs.Views.{command_of}
use Rattle.ruled_model.specs.RuledScripts.{Plainly}
use Rattle.session.specs.Log.{IsLogOf}
use Rattle.why_model.specs.Refusals.{step_refused}
use Rattle.explained_scripts.specs.Refused.{command_text}
use Rattle.explained_scripts.proofs.judging.refused_step.Given as goal

abbrev pub invariant-loop-command : goal.invariant-loop-command
invariant-loop-command g l = record {
  log : IsLogOf l.image l.session;
  names : l.image.names ≡ l.initial.image.names;
  number : l.number + length (into_iter_items l.command-iterator) ≡ length l.fn.commands.items;
  known : AllByRecursion (λ c. CommandNames (λ n. n < length l.initial.image.names) (command_of c)) (into_iter_items l.command-iterator);
  left : step_refused (image_of l.image) (suc l.number) (map (λ c. Plainly (command_text l.initial.image c)) (into_iter_items l.command-iterator))
      ≡ step_refused (image_of l.initial.image) 1 (map (λ c. Plainly (command_text l.initial.image c)) l.fn.commands.items);
}
