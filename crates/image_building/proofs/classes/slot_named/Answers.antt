use Rattle.std.proofs.Common.{sym, ap, ◌∙◌}
use Rattle.std.specs.Prelude.{nat_eq}
use Rattle.std.specs.Option.{option_and_then}
use Rattle.std.specs.HashMap.{get}
use Rattle.image_building.proofs.classes.slot_named.Goals as goal

pub returns : goal.returns
returns c =
    let found = get nat_eq c.args.table.now in
    c.copied.ensures ∙ c.get-2.ensures.value ∙ ap found c.get.view_is ∙ sym (ap (option_and_then found) c.in_ok-name.was)
