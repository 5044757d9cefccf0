use Rattle.event_checks.proofs.Changes.{fixed_after}
use Rattle.event_checks.proofs.scopes.put.Goals as goal

pub returns-clause-after : goal.returns-clause-after
returns-clause-after c = fixed_after c.args.table.now c.insert.new.self c.in_ok-key.key c.args.name.now c.args.fixed c.in_ok-key.ensures.items c.in_ok-before.ensures.entries
