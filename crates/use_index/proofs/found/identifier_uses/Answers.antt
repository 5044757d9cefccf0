use Rattle.std.proofs.Common.{ap, map, ◌∙◌}
use Rattle.std.proofs.lemmas.Result.{IfOk-weaker}
use Rattle.use_index.specs.Found.{use_of}
use Rattle.use_index.proofs.Whole.{identifiers-found}
use Rattle.use_index.proofs.found.identifier_uses.Goals as goal

pub returns : goal.returns
returns c =
    IfOk-weaker c.uses_found.result _ _
    (λ found is. ap (map use_of) is ∙ identifiers-found c.args.image.now c.args.index.now c.args.name c.requires.orderly c.requires.index)
    c.uses_found.ensures
