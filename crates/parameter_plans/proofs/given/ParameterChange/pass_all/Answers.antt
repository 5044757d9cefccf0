use Rattle.std.proofs.Common.{refl, sym, ap, ◌∙◌, arith}
use Rattle.std.specs.Prelude.{nat_eq}
use Rattle.tree_model.specs.Tree.{trees_of}
use Rattle.st_tree.specs.declared.tree.Message.{Message}
use Rattle.parameter_plans.specs.Given.{passed_after}
use Rattle.parameter_plans.proofs.MessagesPassed.{next-passed, next-kept, passed-all}
use Rattle.parameter_plans.proofs.given.ParameterChange.pass_all.Goals as goal
use Rattle.parameter_plans.proofs.given.ParameterChange.pass_all.Goals.{then-eq+in_ok-pass, else-eq}

pub loop-message-preserved : goal.loop-message-preserved
loop-message-preserved c =
    let p = c.args.self.now in
    let now = c.loop-message.messages in
    let i = c.loop-message.message-index in
    elim c.if-eq.branch [
      | then-eq+in_ok-pass w ↦
          next-passed p i now c.if-eq.messages c.args.messages.now c.message-item.result (record { selector = w.to-message.result; arguments = w.pass.new.arguments }) (omega arith) c.message-item.is w.messages-is
          ((λ j. nat_eq (sym c.selector.ensures j) (c.message-item.is j).selector) ∙ sym c.eq.ensures ∙ w.if-eq.true) w.to-message.ensures
          (w.in_ok-pass.ensures ∙ sym (ap (λ (m : Message). passed_after p (trees_of m.arguments)) c.message-item.is)) c.loop-message.invariant
      | else-eq w ↦
          next-kept p i now c.if-eq.messages c.args.messages.now c.message-item.result _ (omega arith) c.message-item.is refl w.messages-is
          ((λ j. nat_eq (sym c.selector.ensures j) (c.message-item.is j).selector) ∙ sym c.eq.ensures ∙ w.if-eq.false) c.loop-message.invariant
    ]

pub returns : goal.returns
returns c = passed-all c.args.self.now c.loop-message.message-index c.loop-message.messages c.args.messages.now (omega arith) c.loop-message.invariant
