use Rattle.std.proofs.Common.{◌∙◌}
use Rattle.std.proofs.lemmas.Result.{on_ok_weaker}
use Rattle.tree_model.specs.Path.{replaced}
use Rattle.st_tree.proofs.Putting.{nth_here, nth_past, after-nodes, statement_here, statement_past, after-statements, after-messages, argument_is, message_there}
use Rattle.st_tree.proofs.tree.+replace.Goals as goal

pub Nodes::replace_at-returns-then-at-len-clause-old : goal.Nodes::replace_at-returns-then-at-len-clause-old
Nodes::replace_at-returns-then-at-len-clause-old t c =
    rw (nth_here _ c.args.self.now c.args.at _ _ c.self.view_is (c.len.ensures ∙ c.self.inside.items.ok.0) c.if-at-len.true c.index_mut.ensures.value) c.replace_at.ensures.old

pub Nodes::replace_at-returns-then-at-len-clause-nowhere : goal.Nodes::replace_at-returns-then-at-len-clause-nowhere
Nodes::replace_at-returns-then-at-len-clause-nowhere t c =
    rw (nth_here _ c.args.self.now c.args.at _ _ c.self.view_is (c.len.ensures ∙ c.self.inside.items.ok.0) c.if-at-len.true c.index_mut.ensures.value) c.replace_at.ensures.nowhere

pub Nodes::replace_at-returns-then-at-len-clause-after : goal.Nodes::replace_at-returns-then-at-len-clause-after
Nodes::replace_at-returns-then-at-len-clause-after t c =
    rw (nth_here _ c.args.self.now c.args.at _ _ c.self.view_is (c.len.ensures ∙ c.self.inside.items.ok.0) c.if-at-len.true c.index_mut.ensures.value)
    (on_ok_weaker c.replace_at.result
    (after-nodes c.self.inside.items.items c.args.self.now c.args.at c.replace_at.new.self (replaced c.index_mut.result.now c.args.path.now c.args.part.value) c.self.view_is)
    c.replace_at.ensures.after)

pub Nodes::replace_at-returns-else-at-len-clause-nowhere : goal.Nodes::replace_at-returns-else-at-len-clause-nowhere
Nodes::replace_at-returns-else-at-len-clause-nowhere t c =
    rw (nth_past _ c.args.self.now c.args.at _ c.self.view_is (c.len.ensures ∙ c.self.inside.items.ok.0) c.if-at-len.false)

pub Statements::replace_at-returns-then-at-len-clause-old : goal.Statements::replace_at-returns-then-at-len-clause-old
Statements::replace_at-returns-then-at-len-clause-old t c =
    rw (statement_here _ c.args.self.now c.args.at _ _ c.self.view_is (c.len.ensures ∙ c.self.inside.items.ok.0) c.if-at-len.true c.index_mut.ensures.value) c.replace_at.ensures.old

pub Statements::replace_at-returns-then-at-len-clause-nowhere : goal.Statements::replace_at-returns-then-at-len-clause-nowhere
Statements::replace_at-returns-then-at-len-clause-nowhere t c =
    rw (statement_here _ c.args.self.now c.args.at _ _ c.self.view_is (c.len.ensures ∙ c.self.inside.items.ok.0) c.if-at-len.true c.index_mut.ensures.value) c.replace_at.ensures.nowhere

pub Statements::replace_at-returns-then-at-len-clause-after : goal.Statements::replace_at-returns-then-at-len-clause-after
Statements::replace_at-returns-then-at-len-clause-after t c =
    rw (statement_here _ c.args.self.now c.args.at _ _ c.self.view_is (c.len.ensures ∙ c.self.inside.items.ok.0) c.if-at-len.true c.index_mut.ensures.value)
    (on_ok_weaker c.replace_at.result
    (after-statements c.self.inside.items.items c.args.self.now c.args.at _ c.index_mut.result.now c.replace_at.new.self (replaced c.index_mut.result.now.node c.args.path.now c.args.part.value)
    c.self.view_is (c.len.ensures ∙ c.self.inside.items.ok.0) c.if-at-len.true c.index_mut.ensures.value)
    c.replace_at.ensures.after)

pub Statements::replace_at-returns-else-at-len-clause-nowhere : goal.Statements::replace_at-returns-else-at-len-clause-nowhere
Statements::replace_at-returns-else-at-len-clause-nowhere t c =
    rw (statement_past _ c.args.self.now c.args.at _ c.self.view_is (c.len.ensures ∙ c.self.inside.items.ok.0) c.if-at-len.false)

pub Messages::replace_at-returns-in-Some-clause-old : goal.Messages::replace_at-returns-in-Some-clause-old
Messages::replace_at-returns-in-Some-clause-old t c =
    rw (argument_is c.args.self.now c.args.at c.in-Some.i c.in-Some.j c.index_mut.result.now (message_there _ _ _ _ c.self.view_is c.in-Some.ensures.within c.index_mut.ensures.value) c.in-Some.ensures.some) c.replace_at.ensures.old

pub Messages::replace_at-returns-in-Some-clause-nowhere : goal.Messages::replace_at-returns-in-Some-clause-nowhere
Messages::replace_at-returns-in-Some-clause-nowhere t c =
    rw (argument_is c.args.self.now c.args.at c.in-Some.i c.in-Some.j c.index_mut.result.now (message_there _ _ _ _ c.self.view_is c.in-Some.ensures.within c.index_mut.ensures.value) c.in-Some.ensures.some) c.replace_at.ensures.nowhere

pub Messages::replace_at-returns-in-Some-clause-after : goal.Messages::replace_at-returns-in-Some-clause-after
Messages::replace_at-returns-in-Some-clause-after t c =
    on_ok_weaker c.replace_at.result
    (after-messages (λ p. replaced p c.args.path.now c.args.part.value) c.self.inside.items.items c.args.self.now c.args.at c.in-Some.i c.in-Some.j c.index_mut.result.now c.replace_at.new.self
    c.self.view_is (message_there _ _ _ _ c.self.view_is c.in-Some.ensures.within c.index_mut.ensures.value) c.in-Some.ensures.some)
    c.replace_at.ensures.after
