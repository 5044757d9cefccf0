use Rattle.std.proofs.Common.{List, length, reverse}
use Rattle.grammar_model.specs.Checks.{Known}
use Rattle.event_checks.specs.Scopes.{fixed_at, Restores, IsScopes}
use Rattle.event_checks.proofs.scopes.Scopes.leave.Given as goal

abbrev pub invariant-changes : goal.invariant-changes
invariant-changes l = (ks : List Known) (outer : List (List Known)) → IsScopes l.fn.self ks outer → Restores (reverse l.self.changes.items) (fixed_at l.self.fixed) outer

abbrev pub decreases-changes : goal.decreases-changes
decreases-changes l = length l.self.changes.items
