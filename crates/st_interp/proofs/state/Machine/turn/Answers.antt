use Rattle.std.proofs.Common.{refl, ◌∙◌}
use Rattle.std.proofs.lemmas.Result.{IfOk-weaker}
use Rattle.st_meaning.specs.StoreView.{store_of}
use Rattle.st_interp.proofs.Begun.{turn_begun}
use Rattle.st_interp.proofs.state.Machine.turn.Goals as goal

pub returns-clause-rest : goal.returns-clause-rest
returns-clause-rest c =
    let names = c.args.program.now.names in
    IfOk-weaker c.in_place.result _ _
    (λ n h i. h i ∙ turn_begun i names c.args.self.now.stack.items _ c.args.blocks c.args.context _ c.args.context.value (store_of names c.args.self.now.store) c.in_ok-hold.ensures c.in_ok-shared.ensures.cases refl)
    c.in_place.ensures.rest
