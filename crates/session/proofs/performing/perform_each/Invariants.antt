use Rattle.std.proofs.Common.{◌<◌, length, map, take, drop, Ok}
use Rattle.std.specs.List.{AllByRecursion}
use Rattle.rb_base.specs.Names.{name_at}
use Rattle.command_numbers.specs.CommandNames.{CommandNames}
use Rattle.command_numbers.specs.MappedCommands.{map_command}
use Rattle.commands.specs.Views.{command_of}
use Rattle.session.specs.Stepping.{IsCarriedOut}
use Rattle.session.proofs.performing.perform_each.Given as goal

abbrev pub invariant-loop-command : goal.invariant-loop-command
invariant-loop-command g l = record {
  known : AllByRecursion (λ c. CommandNames (λ n. n < length l.image.names) (command_of c)) (drop l.command-index l.commands);
  done : IsCarriedOut l.initial.image l.initial.index l.initial.done (map (λ c. map_command (name_at l.initial.image.names) (command_of c)) (take l.command-index l.commands)) l.image l.index l.done (Ok tt);
}
