use Rattle.std.proofs.Common.{sym, ap, ◌∙◌}
use Rattle.std.proofs.lemmas.Result.{IfOk-weaker}
use Rattle.rb_base.specs.Names.{name_at}
use Rattle.st_tree.specs.View.{tree_of}
use Rattle.class_table.specs.View.{image_of}
use Rattle.run_model.specs.Values.{nil_value}
use Rattle.run_model.specs.Acts.{then_do, and_then, acts}
use Rattle.run_model.specs.Reading.{assigns}
use Rattle.run_model.specs.Shapes.{shape_of}
use Rattle.run_model.specs.Eval.{node, messages, makes_closure, does_send, does_node, evaluates}
use Rattle.st_meaning.specs.StoreView.{store_of}
use Rattle.st_interp.specs.declared.state.Purpose.TheVariants as purpose
use Rattle.st_interp.specs.Trees.{texts_at, tree_at, trees_at, messages_at, sequence_at}
use Rattle.st_interp.specs.Machine.{completes, returned, plug}
use Rattle.st_interp.proofs.state.Machine.open_node.Goals as goal

pub returns-in-Cascade-clause-rest : goal.returns-in-Cascade-clause-rest
unfolding and_then
returns-in-Cascade-clause-rest c =
    let i = image_of c.args.program.now in
    let names = c.args.program.now.names in
    let ks = c.args.self.now.stack.items in
    let s = store_of names c.args.self.now.store in
    let f = c.args.context.value in
    IfOk-weaker c.wait.result _ _
    (λ n h. h i names
    ∙ (λ j. plug i names ks (then_do (evaluates i (node f (tree_at names (c.deref-in-Cascade.ensures j))) s) (λ v. messages acts i (evaluates i) (c.in_ok-clone-in-Cascade.ensures.cases j) v nil_value (messages_at names (c.as_slice-in-Cascade.ensures j)))))
    ∙ ap (λ t. plug i names ks (does_node acts i (evaluates i) f (tree_at names t) s)) (sym (ap tree_of c.in-Cascade.is) ∙ c.node.view_is))
    c.wait.ensures.rest

pub returns-in-Assign-clause-rest : goal.returns-in-Assign-clause-rest
unfolding and_then
returns-in-Assign-clause-rest c =
    let i = image_of c.args.program.now in
    let names = c.args.program.now.names in
    let ks = c.args.self.now.stack.items in
    let s = store_of names c.args.self.now.store in
    let f = c.args.context.value in
    IfOk-weaker c.wait-in-Assign.result _ _
    (λ n h. h i names
    ∙ (λ j. plug i names ks (then_do (evaluates i (node f (tree_at names (c.deref-in-Assign.ensures j))) s) (λ v. assigns acts i (c.in_ok-clone-in-Assign.ensures.cases j) (name_at names c.in-Assign.name) v)))
    ∙ ap (λ t. plug i names ks (does_node acts i (evaluates i) f (tree_at names t) s)) (sym (ap tree_of c.in-Assign.is) ∙ c.node.view_is))
    c.wait-in-Assign.ensures.rest

pub returns-clause-rest : goal.returns-clause-rest
unfolding and_then
returns-clause-rest c =
    let i = image_of c.args.program.now in
    let names = c.args.program.now.names in
    let ks = c.args.self.now.stack.items in
    let s = store_of names c.args.self.now.store in
    let f = c.args.context.value in
    IfOk-weaker c.wait-in-Return.result _ _
    (λ n h. h i names
    ∙ (λ j. plug i names ks (then_do (evaluates i (node f (tree_at names (c.deref-in-Return.ensures j))) s) (λ v. returned (c.in_ok-clone-in-Return.ensures.cases j) v)))
    ∙ ap (λ t. plug i names ks (does_node acts i (evaluates i) f (tree_at names t) s)) (sym (ap tree_of c.in-Return.is) ∙ c.node.view_is))
    c.wait-in-Return.ensures.rest

pub returns-in-Block-clause-rest : goal.returns-in-Block-clause-rest
returns-in-Block-clause-rest c =
    let i = image_of c.args.program.now in
    let names = c.args.program.now.names in
    let ks = c.args.self.now.stack.items in
    let s = store_of names c.args.self.now.store in
    let f = c.args.context.value in
    IfOk-weaker c.close.result _ _
    (λ n h. h i names
    ∙ (λ j. plug i names ks (makes_closure acts (texts_at names c.in-Block.parameters) (sequence_at names (c.deref-in-Block.ensures j)) f s))
    ∙ ap (λ t. plug i names ks (does_node acts i (evaluates i) f (tree_at names t) s)) (sym (ap tree_of c.in-Block.is) ∙ c.node.view_is))
    c.close.ensures.rest

pub returns-in-Brace-clause-rest : goal.returns-in-Brace-clause-rest
returns-in-Brace-clause-rest c =
    let i = image_of c.args.program.now in
    let names = c.args.program.now.names in
    let ks = c.args.self.now.stack.items in
    let s = store_of names c.args.self.now.store in
    let f = c.args.context.value in
    IfOk-weaker c.arguments.result _ _
    (λ n h. h
    ∙ (λ j. plug i names ks (completes i names purpose.Brace f (c.new-done.ensures j) (c.as_slice-in-Brace.ensures j) s))
    ∙ ap (λ t. plug i names ks (does_node acts i (evaluates i) f (tree_at names t) s)) (sym (ap tree_of c.in-Brace.is) ∙ c.node.view_is))
    c.arguments.ensures.rest

pub returns-in-Send-clause-rest : goal.returns-in-Send-clause-rest
returns-in-Send-clause-rest c =
    let i = image_of c.args.program.now in
    let names = c.args.program.now.names in
    let ks = c.args.self.now.stack.items in
    let s = store_of names c.args.self.now.store in
    let f = c.args.context.value in
    let n = name_at names c.in-Send.selector in
    IfOk-weaker c.send.result _ _
    (λ _ h. h i
    ∙ (λ j. plug i names ks (does_send acts i (evaluates i) f (tree_at names (c.deref-in-Send.ensures j)) n (trees_at names (c.as_slice.ensures j)) (shape_of n (tree_at names (c.deref-in-Send.ensures j)) (trees_at names (c.as_slice.ensures j))) s))
    ∙ ap (λ t. plug i names ks (does_node acts i (evaluates i) f (tree_at names t) s)) (sym (ap tree_of c.in-Send.is) ∙ c.node.view_is))
    c.send.ensures.rest
