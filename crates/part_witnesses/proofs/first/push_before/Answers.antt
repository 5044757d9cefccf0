use Rattle.std.proofs.Common.{◌≡◌, ◌≤◌, ℕ, suc, ◌+◌, not, List, None, Some, ◌∷◌, ◌++◌, map, drop, get_or, length, sym, ap, ◌∙◌, arith}
use Rattle.std.proofs.Math.Seq.{drop-cons}
use Rattle.std.proofs.lemmas.List.{append-nil, drop_all}
use Rattle.std.proofs.lemmas.Result.{on_ok_weaker}
use Rattle.tree_model.specs.Tree.{TreeOf}
use Rattle.class_table.specs.View.{number_image}
use Rattle.commands.specs.Views.{asked_by}
use Rattle.refusal_witnesses.specs.PartWitnesses.{before_it}
use Rattle.refusal_witnesses.specs.Witnesses.{a_node, where_true}
use Rattle.witness_lists.specs.declared.witness.Owner.TheVariants as owner
use Rattle.witness_lists.specs.Views.{owner_of, shown}
use Rattle.part_witnesses.specs.Held.{held_as}
use Rattle.part_witnesses.proofs.Evaluated.{stepped}
use Rattle.part_witnesses.proofs.first.push_before.Goals as goal

pub returns-in-None : goal.returns-in-None
returns-in-None c =
    let s = c.args.image.now in
    let a = asked_by s.names in
    let m = held_as s.classes c.args.method.now in
    let o = owner_of s (owner.Method c.args.method.now.slot) in
    let k = get_or c.args.steps.now c.loop-step.step-index 0 in
    let i = c.loop-step.step-index in
    let ks : List ℕ = drop (suc i) c.args.steps.now in
    let all = shown s c.loop-step.found.items in
    let here : k ∷ ks ≡ drop i c.args.steps.now = sym (drop-cons c.args.steps.now i 0 c.loop-step-test.true) in
    on_ok_weaker c.push_node_if-in-None.result
    (λ e. e
    ∙ stepped a (number_image s) m c.args.path.now o (shown s c.push_node_if.new.found.items) (shown s c.push_not_plain.new.found.items) all c.loop-step.at c.loop-step.node.now k ks None (sym c.in-None.ensures)
    (c.in_ok-push_node_if.ensures s ∙ ap (λ b. all ++ where_true (not b) (a_node o c.loop-step.at)) c.is_before_sends.ensures) c.in_ok-push_not_plain.ensures
    ∙ ap (λ (xs : List ℕ). all ++ map (a_node o) (before_it a (number_image s) m c.args.path.now c.loop-step.at c.loop-step.node.now xs)) here
    ∙ c.loop-step.invariant)
    (c.push_node_if-in-None.ensures s)

pub loop-step-preserved : goal.loop-step-preserved
loop-step-preserved c =
    let s = c.args.image.now in
    let a = asked_by s.names in
    let m = held_as s.classes c.args.method.now in
    let o = owner_of s (owner.Method c.args.method.now.slot) in
    let k = get_or c.args.steps.now c.loop-step.step-index 0 in
    let i = c.loop-step.step-index in
    let t : TreeOf ℕ = c.in-Some.child.now in
    let ks : List ℕ = drop (suc i) c.args.steps.now in
    let all = shown s c.loop-step.found.items in
    let more = shown s c.push_not_plain.new.found.items in
    let one : i + 1 ≡ suc i = omega arith in
    let here : k ∷ ks ≡ drop i c.args.steps.now = sym (drop-cons c.args.steps.now i 0 c.loop-step-test.true) in
    (λ j. more ++ map (a_node o) (before_it a (number_image s) m c.args.path.now (c.in_ok-push.ensures.ok j) t (drop (one j) c.args.steps.now)))
    ∙ stepped a (number_image s) m c.args.path.now o (shown s c.push_node_if.new.found.items) more all c.loop-step.at c.loop-step.node.now k ks (Some t) (sym c.in-Some.ensures)
    (c.in_ok-push_node_if.ensures s ∙ ap (λ b. all ++ where_true (not b) (a_node o c.loop-step.at)) c.is_before_sends.ensures) c.in_ok-push_not_plain.ensures
    ∙ ap (λ (xs : List ℕ). all ++ map (a_node o) (before_it a (number_image s) m c.args.path.now c.loop-step.at c.loop-step.node.now xs)) here
    ∙ c.loop-step.invariant

pub returns : goal.returns
returns c =
    let s = c.args.image.now in
    let a = asked_by s.names in
    let m = held_as s.classes c.args.method.now in
    let o = owner_of s (owner.Method c.args.method.now.slot) in
    let all = shown s c.loop-step.found.items in
    let over : length c.args.steps.now ≤ c.loop-step.step-index = omega (arith, c.loop-step-test.false) in
    sym (append-nil all)
    ∙ ap (λ (xs : List ℕ). all ++ map (a_node o) (before_it a (number_image s) m c.args.path.now c.loop-step.at c.loop-step.node.now xs)) (sym (drop_all c.loop-step.step-index c.args.steps.now over))
    ∙ c.loop-step.invariant
