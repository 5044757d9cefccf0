use Rattle.std.proofs.Common.{sym, ◌∙◌}
use Rattle.inlined_code.proofs.Answers.{put-back}
use Rattle.inlined_code.proofs.inlining.last_unanswered.Goals as goal

pub returns : goal.returns
returns c =
    put-back c.args.statements c.pop.new.self.items c.from_vec-2.result c.in-Some.statement.comments c.in-Some.statement.node c.without_return-node.result
    (sym c.into_vec-items.ensures ∙ c.in-Some.ensures.items) c.without_return-node.ensures (c.from_vec-2.ensures ∙ c.in_ok-push.ensures.items)
