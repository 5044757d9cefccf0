use Rattle.std.proofs.Common.{◌≡◌, ◌++◌, take}
use Rattle.run_texts.specs.Behind.{atoms_behind}
use Rattle.run_texts.proofs.atoms.write_further_atoms.Given as goal

abbrev pub invariant-loop-atom : goal.invariant-loop-atom
invariant-loop-atom l = l.out ≡ l.initial.out ++ atoms_behind (take l.atom-index l.atoms)
