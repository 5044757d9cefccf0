use Rattle.std.proofs.Common.{◌≡◌, map, take}
use Rattle.run_model.specs.Views.{atom_of}
use Rattle.st_meaning.proofs.heap.Heap.atoms.Given as goal

abbrev pub invariant-loop-value : goal.invariant-loop-value
invariant-loop-value l = l.atoms.items ≡ map (atom_of l.self) (take l.value-index l.values)
