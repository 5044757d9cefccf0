use Rattle.std.proofs.Common.{ap, map, ◌∙◌}
use Rattle.std.proofs.lemmas.Result.{IfOk-weaker}
use Rattle.use_index.specs.Found.{use_of}
use Rattle.use_index.proofs.Whole.{senders-found}
use Rattle.use_index.proofs.found.senders.Goals as goal

pub returns : goal.returns
returns c =
    IfOk-weaker c.uses_found.result _ _
    (λ found is. ap (map use_of) is ∙ senders-found c.args.image.now c.args.index.now c.args.selector c.requires.orderly c.requires.index)
    c.uses_found.ensures
