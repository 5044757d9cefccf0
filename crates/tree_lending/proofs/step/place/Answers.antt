-- The message of an argument.
use Rattle.std.proofs.Common.{◌≡◌, length, arith, rules}
use Rattle.std.proofs.lemmas.Grind.{common_steps}
use Rattle.st_tree.proofs.Places.{argument_later}
use Rattle.st_tree.proofs.Putting.{place_later}
use Rattle.tree_lending.proofs.Places.{place_here}
use Rattle.tree_lending.proofs.step.place.Goals as goal

pub loop-i-preserved : goal.loop-i-preserved
loop-i-preserved c =
    let counted : c.len-count.result ≡ length c.index-messages-i.result.arguments = search rules in
    record {
      same = grind (arith, common_steps, argument_later);
      places = λ a j p. place_later c.args.messages.now c.args.at c.loop-i.i c.loop-i.left c.len-count.result a j c.index-messages-i.result c.loop-i-test.true c.index-messages-i.is counted c.if-left-count.false c.loop-i.invariant.places p;
    }

pub returns-then-left-count-clause-some : goal.returns-then-left-count-clause-some
returns-then-left-count-clause-some c =
    place_here c.args.messages.now c.args.at c.loop-i.i c.loop-i.left c.index-messages-i.result c.loop-i-test.true c.index-messages-i.is (grind arith) c.loop-i.invariant.places
