use Rattle.std.proofs.Common.{sym, ap, ◌∙◌}
use Rattle.std.specs.Prelude.{nat_eq}
use Rattle.std.specs.HashMap.{get}
use Rattle.image_building.proofs.methods.slot_of.Goals as goal

pub returns : goal.returns
returns c = sym c.unwrap.ensures ∙ c.copied.ensures ∙ c.get.ensures.value ∙ ap (get nat_eq c.args.table.now) c.name.view_is
