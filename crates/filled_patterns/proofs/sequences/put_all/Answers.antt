use Rattle.std.proofs.Common.{◌≡◌, List, length, sym, ap, ◌∙◌}
use Rattle.std.proofs.lemmas.List.{map-id}
use Rattle.std.proofs.lemmas.Iterator.Consumers.{YieldsList-end}
use Rattle.std.proofs.lemmas.Iterator.Adapters.{YieldsList-from_vec}
use Rattle.st_tree.specs.declared.tree.Statement.{Statement}
use Rattle.filled_patterns.specs.Filling.{State, state_of, put_one, put_all}
use Rattle.filled_patterns.proofs.Joining.{all_last}
use Rattle.filled_patterns.proofs.sequences.put_all.Goals as goal

pub loop-statement-preserved : goal.loop-statement-preserved
loop-statement-preserved c =
    let x : Statement = c.in-Some.statement in
    c.in_ok-all.ensures ∙ ap (λ (s : State). put_one s x.comments x.node) c.loop-statement.invariant ∙ sym (all_last c.loop-statement.yielded x (state_of c.args.made))

pub returns : goal.returns
returns c =
    let gives = c.into_iter-statement-iterator.ensures.into_iter_gives in
    let all = YieldsList-end (YieldsList-from_vec {s = c.into_iter-statement-iterator.result} c.args.run (gives.0 ∙ c.into_vec-statement-items.ensures) (gives.1 ∙ c.into_vec-statement-items.result.ok.0 ∙ ap length c.into_vec-statement-items.ensures)) c.loop-statement.yielded c.loop-statement.statement-iterator c.loop-statement.yielded_by c.next.result c.next.new.self c.in-None.is c.next.ensures.steps in
    let whole : c.loop-statement.yielded ≡ c.args.run = sym (map-id c.loop-statement.yielded) ∙ all.0 in
    c.loop-statement.invariant ∙ ap (λ (rs : List Statement). put_all (state_of c.args.made) rs) whole
