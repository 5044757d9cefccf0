use Rattle.std.proofs.Common.{◌≡◌}
use Rattle.class_table.specs.View.{image_of}
use Rattle.st_interp.specs.Machine.{rest}
use Rattle.st_interp.proofs.state.Machine.finish.Given as goal

abbrev pub invariant-loop-ending : goal.invariant-loop-ending
invariant-loop-ending l = rest (image_of l.program) l.program.names l.self l.next ≡ rest (image_of l.program) l.program.names l.initial.self l.initial.next

abbrev pub decreases-loop-ending : goal.decreases-loop-ending
decreases-loop-ending l = l.self.store.ticks
