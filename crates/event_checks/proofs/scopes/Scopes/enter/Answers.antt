use Rattle.std.proofs.Common.{◌∷◌, refl}
use Rattle.std.proofs.lemmas.Result.{IfOk-weaker}
use Rattle.event_checks.proofs.Changes.{enters}
use Rattle.event_checks.proofs.scopes.Scopes.enter.Goals as goal

pub returns : goal.returns
returns c =
    IfOk-weaker c.declare_list.result _ _
    (λ u h. λ ks outer s. h ks (ks ∷ outer) (enters c.args.self.now (record { fixed = c.args.self.now.fixed; changes = c.push.new.self }) ks outer refl c.in_ok-push.ensures.items s))
    c.declare_list.ensures
