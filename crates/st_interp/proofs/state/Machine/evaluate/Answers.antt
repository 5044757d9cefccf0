use Rattle.std.proofs.Common.{refl, ◌∙◌}
use Rattle.std.proofs.lemmas.Result.{IfOk-weaker}
use Rattle.class_table.specs.View.{image_of}
use Rattle.st_interp.specs.Trees.{tree_at}
use Rattle.st_interp.proofs.Begun.{node_ticked}
use Rattle.st_interp.proofs.state.Machine.evaluate.Goals as goal

pub returns-clause-rest : goal.returns-clause-rest
returns-clause-rest c =
    let names = c.args.program.now.names in
    IfOk-weaker c.open_node.result _ _
    (λ n h. h ∙ node_ticked (image_of c.args.program.now) names c.args.self.now.stack.items c.args.context.value (tree_at names c.args.node.now) c.args.self.now.store _ c.requires refl)
    c.open_node.ensures.rest
