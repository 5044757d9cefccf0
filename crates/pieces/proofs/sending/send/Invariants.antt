use Rattle.std.proofs.Common.{◌≤◌, length}
use Rattle.rb_base.specs.Outside.{GoesOn}
use Rattle.pieces.proofs.Pieces.{PutSoFar}
use Rattle.pieces.proofs.sending.send.Given as goal

abbrev pub invariant-loop-rest : goal.invariant-loop-rest
invariant-loop-rest g l = record {
  goes_on : GoesOn l.bytes (g.K.Sink.sent l.initial.out) l.rest (g.K.Sink.sent l.out);
  faults : g.K.Sink.faults l.initial.out ≤ g.K.Sink.faults l.out;
  puts : PutSoFar l.bytes (g.K.PutSink.puts l.initial.out) l.rest (g.K.PutSink.puts l.out);
}

abbrev pub decreases-loop-rest : goal.decreases-loop-rest
decreases-loop-rest g l = length l.rest
