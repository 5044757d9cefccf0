use Rattle.std.proofs.Common.{◌≡◌, ◌++◌, drop}
use Rattle.rb_base.specs.Doubling.{doubled}
use Rattle.sequence_prims.proofs.texts.append_doubled.Given as goal

abbrev pub invariant-loop-byte : goal.invariant-loop-byte
invariant-loop-byte l = l.text.items ++ doubled 39 (drop l.byte-index l.bytes) ≡ l.initial.text.items ++ doubled 39 l.bytes
