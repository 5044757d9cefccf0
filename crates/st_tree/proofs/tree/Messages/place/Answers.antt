use Rattle.std.proofs.Common.{◌≡◌, ◌∙◌, length, arith, rules}
use Rattle.std.proofs.lemmas.Grind.{common_steps}
use Rattle.st_tree.proofs.Places.{argument_later}
use Rattle.st_tree.proofs.Putting.{place_later}
use Rattle.st_tree.proofs.tree.Messages.place.Goals as goal

pub loop-i-preserved : goal.loop-i-preserved
loop-i-preserved c =
    let counted : c.len-count.result ≡ length c.message-item.result.arguments = search rules in
    let items = c.deref-message-items.ensures.value ∙ c.self.view_is in
    record {
      same = grind (arith, common_steps, argument_later);
      places = λ a j p. place_later c.args.self.now c.args.at c.loop-i.i c.loop-i.left c.len-count.result a j c.message-item.result (rw items at c.loop-i-test.true) (rw items at c.message-item.is) counted c.if-left-count.false c.loop-i.invariant.places p;
    }
