use Rattle.std.proofs.Common.{ℕ, List, sym, ap, ◌∙◌}
use Rattle.tree_model.specs.Tree.{TreeOf, cascade}
use Rattle.st_tree.specs.declared.tree.Message.{Message}
use Rattle.st_tree.specs.View.{tree_of, messages_of}
use Rattle.part_questions.specs.Before.{is_before_sends}
use Rattle.part_questions.proofs.Firsts.{before-first}
use Rattle.part_questions.proofs.first.is_before_sends.Goals as goal

pub returns-in-Some : goal.returns-in-Some
returns-in-Some c =
    let r = c.in-Cascade.receiver.value in
    before-first c.as_slice.result.now c.in-Some.message.now r c.args.step c.len.result c.in-Some.ensures.value c.len.ensures
    ∙ ap (λ (t : TreeOf ℕ). is_before_sends t c.args.step) (ap (λ (ms : List Message). cascade r (messages_of ms)) c.as_slice.ensures ∙ sym (sym c.node.view_is ∙ ap tree_of c.in-Cascade.is))
