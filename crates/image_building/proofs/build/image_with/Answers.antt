use Rattle.std.proofs.Common.{refl, sym, ap, subst}
use Rattle.class_table.specs.Slots.{Slots}
use Rattle.class_table.specs.Valid.{IsOrderly}
use Rattle.live_slots.specs.Live.{AllLive}
use Rattle.live_slots.proofs.Keeping.{all-none}
use Rattle.image_building.proofs.Blank.{only_names, orderly_names}
use Rattle.image_building.proofs.build.image_with.Goals as goal

pub returns-clause-image : goal.returns-clause-image
returns-clause-image c = ap (λ (s : Slots). let t : Slots = record s { names = c.args.names } in t) c.new-image.ensures

pub returns-clause-orderly : goal.returns-clause-orderly
returns-clause-orderly c =
    let image = ap (λ (s : Slots). let t : Slots = record s { names = c.args.names } in t) c.new-image.ensures in
    subst IsOrderly (sym image) (orderly_names c.args.names c.len.ensures.distinct)

pub returns-clause-live : goal.returns-clause-live
returns-clause-live c =
    let image = ap (λ (s : Slots). let t : Slots = record s { names = c.args.names } in t) c.new-image.ensures in
    subst AllLive (sym image) (all-none (only_names c.args.names) refl refl)
