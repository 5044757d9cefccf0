use Rattle.std.proofs.Common.{◌≡◌, ℕ, suc, ◌+◌, ◌≤◌, Bool, not, List, ◌++◌, [], ◌∷◌, map, ap, sym, ◌∙◌, arith}
use Rattle.tree_model.specs.Tree.{TreeOf}
use Rattle.tree_model.specs.Path.{children}
use Rattle.class_table.specs.View.{number_image}
use Rattle.command_model.specs.Asked.{no_parts}
use Rattle.command_model.specs.Numbers.{number_asked}
use Rattle.command_model.specs.Plain.{is_plain}
use Rattle.commands.specs.Views.{asked_by, self_in}
use Rattle.part_questions.specs.Codes.{entry_of}
use Rattle.refusal_witnesses.specs.PartWitnesses.{not_plain}
use Rattle.refusal_witnesses.specs.Witnesses.{WitnessOf, a_node, where_true}
use Rattle.witness_lists.specs.declared.witness.Owner.TheVariants as owner
use Rattle.witness_lists.specs.Views.{owner_of, shown}
use Rattle.part_witnesses.specs.Held.{held_as}
use Rattle.part_witnesses.proofs.Evaluated.{plain-more, plain-short}
use Rattle.part_witnesses.proofs.first.push_not_plain.Goals as goal

pub returns-in-None : goal.returns-in-None
returns-in-None c =
    let s = c.args.image.now in
    let m = held_as s.classes c.args.method.now in
    let o = owner_of s (owner.Method c.args.method.now.slot) in
    let within : c.loop-step.step ≤ c.args.count = omega (arith, c.loop-step-test.true) in
    c.loop-step.invariant
    ∙ ap (λ (ws : List (WitnessOf ℕ)). shown s c.args.found.now.items ++ ws)
    (plain-short (asked_by s.names) (number_image s) m c.args.path.now o c.args.at.now c.loop-step.step c.args.count c.args.node.now within (sym c.in-None.ensures))

pub loop-step-preserved : goal.loop-step-preserved
loop-step-preserved c =
    let s = c.args.image.now in
    let m = held_as s.classes c.args.method.now in
    let o = owner_of s (owner.Method c.args.method.now.slot) in
    let k = c.loop-step.step in
    let t : TreeOf ℕ = c.in-Some.child.now in
    let one : suc k ≡ k + 1 = omega arith in
    let plain : c.is_plain-plain.result ≡ is_plain (asked_by s.names) (number_image s) m c.args.path.now t =
    c.is_plain-plain.ensures
    ∙ (λ j. is_plain (number_asked s.names ((c.self_name-self_name.ensures ∙ ap self_in c.names.ensures) j) no_parts) (number_image s) (entry_of s (c.code_of-code.ensures j)) c.args.path.now t) in
    c.in_ok-push_child_if-in-Some.ensures s
    ∙ ap (λ (b : Bool). shown s c.loop-step.found.items ++ where_true (not b) (a_node o (c.args.at.now ++ k ∷ []))) plain
    ∙ plain-more (asked_by s.names) (number_image s) m c.args.path.now o (shown s c.args.found.now.items) (shown s c.loop-step.found.items) c.args.at.now k c.args.node.now t (sym c.in-Some.ensures) c.loop-step.invariant
    ∙ ap (λ (n : ℕ). shown s c.args.found.now.items ++ map (a_node o) (not_plain (asked_by s.names) (number_image s) m c.args.path.now c.args.at.now 0 n (children c.args.node.now))) one

pub returns : goal.returns
returns c =
    let s = c.args.image.now in
    let m = held_as s.classes c.args.method.now in
    let o = owner_of s (owner.Method c.args.method.now.slot) in
    let over : c.loop-step.step ≡ c.args.count = omega (arith, c.loop-step-test.false) in
    c.loop-step.invariant
    ∙ ap (λ (n : ℕ). shown s c.args.found.now.items ++ map (a_node o) (not_plain (asked_by s.names) (number_image s) m c.args.path.now c.args.at.now 0 n (children c.args.node.now))) over
