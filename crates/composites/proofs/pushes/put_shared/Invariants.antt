use Rattle.std.proofs.Common.{◌≡◌, ◌++◌, map, filter, take}
use Rattle.composites.specs.Pushed.{variable_push, have_all}
use Rattle.composites.proofs.pushes.put_shared.Given as goal

abbrev pub invariant-loop-variable : goal.invariant-loop-variable
invariant-loop-variable l =
    l.commands.items ≡ l.fn.commands.items ++ map (variable_push l.class) (filter (have_all l.image l.others) (take l.variable-index l.variables))
