use Rattle.std.proofs.Common.{◌++◌, ◌∷◌, List, sym, subst}
use Rattle.std.proofs.lemmas.Result.{IfOk-weaker}
use Rattle.grammar_model.specs.Checks.{known_of}
use Rattle.parse_events.specs.declared.event.Declaration.{Declaration}
use Rattle.parse_events.specs.declared.event.Event.{Event}
use Rattle.event_checks.specs.Lists.{declared}
use Rattle.event_checks.specs.Scopes.{behind, IsScopes}
use Rattle.event_checks.proofs.assignments.follow.Goals as goal

pub returns-in-Enter : goal.returns-in-Enter
returns-in-Enter c =
    IfOk-weaker c.enter.result _ _
    (λ u h. λ known s.
    subst (λ (e : Event). IsScopes c.enter.new.self (behind e known).now (behind e known).outer) (sym c.in-Enter.is)
    (subst (λ (ds : List Declaration). IsScopes c.enter.new.self (known_of (declared c.in-Enter.parameters) (declared ds) ++ known.now) (known.now ∷ known.outer)) c.as_slice-in-Enter.ensures
    (subst (λ (ps : List Declaration). IsScopes c.enter.new.self (known_of (declared ps) (declared c.as_slice-in-Enter.result.now) ++ known.now) (known.now ∷ known.outer)) c.as_slice.ensures
    (h known.now known.outer s))))
    c.enter.ensures

pub returns-in-Block : goal.returns-in-Block
returns-in-Block c =
    IfOk-weaker c.leave.result _ _
    (λ u h. λ known s. subst (λ (e : Event). IsScopes c.leave.new.self (behind e known).now (behind e known).outer) (sym c.in-Block.is) (h known.now known.outer s))
    c.leave.ensures
