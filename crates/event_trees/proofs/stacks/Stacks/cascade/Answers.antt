use Rattle.std.proofs.lemmas.Result.{on_ok_weaker}
use Rattle.event_trees.specs.Held.{held}
use Rattle.event_trees.proofs.Lists.{front_messages, received, unreceived}
use Rattle.event_trees.proofs.stacks.Stacks.cascade.Goals as goal

pub returns-in-Some : goal.returns-in-Some
returns-in-Some c =
    let s = c.args.self.now in
    on_ok_weaker c.put.result (λ put i. record (held s) {
      messages = front_messages c.args.count s.messages.items c.take_last.new.items.items c.in_ok-take_last.ensures.kept i;
      nodes = received c.args.count s.nodes.items c.take_one.new.items.items c.put.new.items.items c.in-Some.receiver c.in_ok-receiver.receiver.value s.messages.items c.from_vec-messages.result c.in-Some.ensures.kept c.in-Some.ensures.taken c.in_ok-receiver.ensures (cc (c.in_ok-take_last.ensures.taken, c.from_vec-messages.ensures)) put i;
    }) c.put.ensures

pub returns : goal.returns
returns c =
    let s = c.args.self.now in
    λ i. record (held s) {
      messages = front_messages c.args.count s.messages.items c.take_last.new.items.items c.in_ok-take_last.ensures.kept i;
      nodes = unreceived c.args.count s.nodes.items c.take_one.new.items.items s.messages.items c.in_default.ensures.kept c.in_default.ensures.taken i;
    }
