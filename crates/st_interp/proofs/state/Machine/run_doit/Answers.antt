use Rattle.std.proofs.Common.{refl, ◌∙◌}
use Rattle.std.proofs.lemmas.Result.{IfOk-weaker}
use Rattle.class_table.specs.View.{image_of}
use Rattle.st_meaning.specs.StoreView.{store_of}
use Rattle.st_interp.specs.Trees.{sequence_at}
use Rattle.st_interp.proofs.Begun.{doit_begun}
use Rattle.st_interp.proofs.state.Machine.run_doit.Goals as goal

pub returns : goal.returns
returns c =
    let i = image_of c.args.program.now in
    let names = c.args.program.now.names in
    IfOk-weaker c.finish.result _ _
    (λ e h. h ∙ c.in_ok-next.ensures.rest i ∙ doit_begun i names c.new.result.items _ c.args.class _ _ _ (sequence_at names c.args.body.now) (store_of names c.args.self.now.store) _ c.new.ensures.items c.in_ok-context.ensures.stack c.nil.ensures refl (c.in_ok-context.ensures.store names) c.in_ok-context.ensures.context)
    c.finish.ensures
