use Rattle.std.proofs.Common.{◌≡◌}
use Rattle.derivations.specs.Signs.{sign_of}
use Rattle.derivations.specs.Named.{IsNameFor}
use Rattle.derivations.proofs.naming.add_name.Given as goal

abbrev pub invariant-loop-tries : goal.invariant-loop-tries
invariant-loop-tries l = record {
  text : IsNameFor l.text (sign_of l.mark);
  names : l.names ≡ l.initial.names;
}
