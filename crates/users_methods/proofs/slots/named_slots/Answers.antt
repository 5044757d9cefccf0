use Rattle.std.proofs.Common.{ap, ◌∙◌}
use Rattle.std.specs.Prelude.{nat_eq}
use Rattle.std.specs.List.{list_any}
use Rattle.users_methods.proofs.Places.{listed-named}
use Rattle.users_methods.proofs.slots.named_slots.Goals as goal

pub returns : goal.returns
returns c k =
    ap (list_any (nat_eq k)) c.in_ok-found.ensures
    ∙ listed-named c.args.image.now c.args.method.now c.args.index.now c.listed-places.result.now c.requires.index c.listed-places.ensures k
