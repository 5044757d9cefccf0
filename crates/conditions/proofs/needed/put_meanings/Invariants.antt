use Rattle.std.proofs.Common.{◌≡◌, ◌++◌, map, take}
use Rattle.command_model.specs.Conditions.{MeansSame}
use Rattle.commands.specs.Views.{condition_of}
use Rattle.conditions.proofs.needed.put_meanings.Given as goal

abbrev pub invariant-loop-class : goal.invariant-loop-class
invariant-loop-class l =
    map condition_of l.conditions.items
    ≡ map condition_of l.fn.conditions.items ++ map (MeansSame l.method.class l.method.meta l.method.selector) (take l.class-index l.classes)
