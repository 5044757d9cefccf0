use Rattle.std.proofs.Common.{◌≡◌, ◌++◌, ◌≤◌, drop, length, map, codes}
use Rattle.std.specs.List.{flat_map}
use Rattle.rb_base.specs.Names.{name_at}
use Rattle.st_formatter.proofs.lines.write_parameters.Given as goal

abbrev pub invariant-loop-at : goal.invariant-loop-at
invariant-loop-at l =
    (l.at ≤ length l.parameters)
    × (l.out ≡ flat_map (λ q. codes ":" ++ q ++ codes " ") (map (name_at l.names) (drop l.at l.parameters)) ++ l.initial.out)

abbrev pub decreases-loop-at : goal.decreases-loop-at
decreases-loop-at l = l.at
