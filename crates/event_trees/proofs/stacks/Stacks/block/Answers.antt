use Rattle.std.proofs.lemmas.Result.{on_ok_weaker}
use Rattle.event_trees.specs.Held.{held}
use Rattle.event_trees.proofs.Lists.{front_statements, front_scopes, scoped, unscoped}
use Rattle.event_trees.proofs.stacks.Stacks.block.Goals as goal

pub returns-in-Some : goal.returns-in-Some
returns-in-Some c =
    let s = c.args.self.now in
    on_ok_weaker c.put.result (λ put i. record (held s) {
      statements = front_statements c.args.count s.statements.items c.take_last.new.items.items c.in_ok-take_last.ensures.kept i;
      scopes = front_scopes 1 s.scopes.items c.take_one.new.items.items c.in-Some.ensures.kept i;
      nodes = scoped c.args.count c.args.tail s.nodes.items c.put.new.items.items s.scopes.items c.in-Some.scope c.in_ok-body.body.value s.statements.items c.from_vec-statements.result c.in-Some.ensures.taken (cc (c.in_ok-take_last.ensures.taken, c.from_vec-statements.ensures)) c.in_ok-body.ensures put i;
    }) c.put.ensures

pub returns : goal.returns
returns c =
    let s = c.args.self.now in
    λ i. record (held s) {
      statements = front_statements c.args.count s.statements.items c.take_last.new.items.items c.in_ok-take_last.ensures.kept i;
      scopes = front_scopes 1 s.scopes.items c.take_one.new.items.items c.in_default.ensures.kept i;
      nodes = unscoped c.args.count c.args.tail s.nodes.items s.scopes.items s.statements.items c.in_default.ensures.taken i;
    }
