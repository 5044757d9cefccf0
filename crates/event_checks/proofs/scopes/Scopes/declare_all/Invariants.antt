use Rattle.std.proofs.Common.{◌≤◌, ◌++◌, List, length, drop}
use Rattle.grammar_model.specs.Checks.{Known}
use Rattle.event_checks.specs.Lists.{declared}
use Rattle.event_checks.specs.Scopes.{known_as, IsScopes}
use Rattle.event_checks.proofs.scopes.Scopes.declare_all.Given as goal

abbrev pub invariant-loop-count : goal.invariant-loop-count
invariant-loop-count l = record {
  inside : l.count ≤ length l.declarations;
  scopes : (ks : List Known) (outer : List (List Known)) → IsScopes l.fn.self ks outer → IsScopes l.self (known_as l.fixed (declared (drop l.count l.declarations)) ++ ks) outer;
}

abbrev pub decreases-loop-count : goal.decreases-loop-count
decreases-loop-count l = l.count
