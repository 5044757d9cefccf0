use Rattle.std.proofs.Common.{◌≡◌, ◌++◌, drop, map}
use Rattle.rb_base.specs.Names.{name_at}
use Rattle.run_model.specs.Eval.{held}
use Rattle.st_meaning.proofs.slots.hold.Given as goal

abbrev pub invariant-loop-at : goal.invariant-loop-at
invariant-loop-at l =
    l.slots.items ++ held (map (name_at l.names) (drop l.at l.parameters)) (drop l.at l.arguments)
    ≡ l.initial.slots.items ++ held (map (name_at l.names) l.parameters) l.arguments
