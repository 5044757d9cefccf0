use Rattle.std.proofs.Common.{◌≡◌, ◌≤◌}
use Rattle.class_table.specs.View.{image_of}
use Rattle.st_interp.specs.Machine.{rest, load}
use Rattle.st_interp.proofs.state.Machine.settle.Given as goal

abbrev pub invariant-loop-next : goal.invariant-loop-next
invariant-loop-next l = record {
  rest : rest (image_of l.program) l.program.names l.self l.next ≡ rest (image_of l.program) l.program.names l.initial.self l.initial.next;
  ticks : l.self.store.ticks ≤ l.initial.self.store.ticks;
}

abbrev pub decreases-loop-next : goal.decreases-loop-next
decreases-loop-next l = load l.self l.next
