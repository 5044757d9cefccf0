use Rattle.std.proofs.Common.{◌-◌, ◌≤◌, length}
use Rattle.std.specs.Io.KnownBytes.{Consumes}
use Rattle.system_devices.proofs.read_up_to.read_up_to.Given as goal

abbrev pub invariant-loop-buffer : goal.invariant-loop-buffer
invariant-loop-buffer g l = record {
  most : length l.into.items ≤ l.most;
  taken : Consumes (g.F.Read.remaining l.initial.file) (g.F.Read.remaining l.file) l.into.items;
}

abbrev pub decreases-loop-buffer : goal.decreases-loop-buffer
decreases-loop-buffer g l = l.most - length l.into.items
