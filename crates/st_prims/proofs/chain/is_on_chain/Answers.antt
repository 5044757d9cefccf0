use Rattle.std.proofs.Common.{◌∙◌, length, ap}
use Rattle.std.specs.List.{list_any}
use Rattle.image_model.specs.Upwards.{upwards}
use Rattle.st_prims.specs.Walks.{has_text, next_above}
use Rattle.st_prims.proofs.Chains.{on_chain}
use Rattle.st_prims.proofs.chain.is_on_chain.Goals as goal

pub returns : goal.returns
returns c =
    c.has_above.ensures
    ∙ ap (λ o. list_any (has_text c.args.image.now c.args.class.now) (upwards (next_above c.args.image.now) (length c.args.image.now.class_order) o)) c.class_of_text.ensures
    ∙ on_chain c.args.image.now c.requires c.args.class.now c.args.name.now
