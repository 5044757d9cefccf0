use Rattle.std.proofs.Common.{map}
use Rattle.event_trees.specs.Naming.{Grows}
use Rattle.derivations.specs.Signs.{sign_of}
use Rattle.derivations.specs.Numbered.{table_of}
use Rattle.derivations.specs.Named.{IsNamedOnce}
use Rattle.derivations.proofs.naming.name_marks.Given as goal

abbrev pub invariant-loop-mark : goal.invariant-loop-mark
invariant-loop-mark l = record {
  named : IsNamedOnce l.initial.names (map sign_of l.yielded) (table_of l.marks) l.names;
  grows : Grows l.initial.names l.names;
}
