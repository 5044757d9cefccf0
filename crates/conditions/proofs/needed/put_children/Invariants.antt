use Rattle.std.proofs.Common.{◌≡◌, ◌++◌, map, take}
use Rattle.command_model.specs.Conditions.{ChildOf}
use Rattle.commands.specs.Views.{condition_of}
use Rattle.conditions.proofs.needed.put_children.Given as goal

abbrev pub invariant-loop-class : goal.invariant-loop-class
invariant-loop-class l = map condition_of l.conditions.items ≡ map condition_of l.fn.conditions.items ++ map (λ s. ChildOf s l.superclass) (take l.class-index l.classes)
