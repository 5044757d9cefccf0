use Rattle.std.proofs.Common.{◌≡◌, ◌++◌, drop, []}
use Rattle.change_file.specs.Shown.{key_text}
use Rattle.change_file.proofs.methods.key_of.Given as goal

abbrev pub invariant-loop-byte : goal.invariant-loop-byte
invariant-loop-byte l = l.key ++ key_text (drop l.byte-index l.item.method.class.now) l.item.method.meta [] ≡ key_text l.item.method.class.now l.item.method.meta []
