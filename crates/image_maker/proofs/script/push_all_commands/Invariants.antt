use Rattle.std.proofs.Common.{◌≡◌, ◌++◌}
use Rattle.image_maker.specs.Generated.{pieces, command_lines}
use Rattle.image_maker.proofs.script.push_all_commands.Given as goal

abbrev pub invariant-loop-number : goal.invariant-loop-number
invariant-loop-number l = l.out ≡ l.fn.out ++ pieces command_lines l.number
