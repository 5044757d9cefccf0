use Rattle.std.proofs.Common.{◌≡◌, ◌++◌, drop}
use Rattle.rb_base.specs.Doubling.{doubled}
use Rattle.run_texts.proofs.atoms.write_doubled.Given as goal

abbrev pub invariant-loop-byte : goal.invariant-loop-byte
invariant-loop-byte l = l.out ++ doubled 39 (drop l.byte-index l.text) ≡ l.initial.out ++ doubled 39 l.text
