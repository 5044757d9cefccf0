use Rattle.event_checks.proofs.Changes.{declares}
use Rattle.event_checks.proofs.scopes.Scopes.declare.Goals as goal

pub returns : goal.returns
returns c = λ ks outer s.
    declares c.args.self.now (record { fixed = c.put.new.table; changes = c.push.new.self }) c.in_ok-name.name c.args.name.now c.args.fixed c.in_ok-before.before ks outer
    c.in_ok-name.ensures.items c.in_ok-before.ensures.before c.in_ok-before.ensures.after c.in_ok-push.ensures.items s
