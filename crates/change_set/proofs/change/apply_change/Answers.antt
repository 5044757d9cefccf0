use Rattle.std.proofs.Common.{◌≡◌, true, is_some, sym, subst}
use Rattle.class_table.specs.Slots.{Slots}
use Rattle.class_table.specs.Changing.{HasPlace}
use Rattle.change_set.specs.Code.{node_in}
use Rattle.change_set.specs.Change.{CanApply}
use Rattle.change_set.proofs.Swaps.{place-there, part_applied}
use Rattle.change_set.proofs.change.apply_change.Goals as goal

pub swap_part-requires : goal.swap_part-requires
swap_part-requires c = subst (CanApply c.args.image.now) c.in-Part.is c.requires

pub swap_source-requires : goal.swap_source-requires
swap_source-requires c =
    let there : is_some (node_in c.args.image.now c.in-Part.place c.in-Part.path) ≡ true = subst (CanApply c.args.image.now) c.in-Part.is c.requires in
    subst (λ (s : Slots). HasPlace s c.in-Part.place) (sym c.swap_part.ensures.image) (place-there c.args.image.now c.in-Part.place c.in-Part.path c.in-Part.part there)

pub returns-in-Part-clause-image : goal.returns-in-Part-clause-image
returns-in-Part-clause-image c =
    rw c.in-Part.is (part_applied c.args.image.now c.swap_part.new.image c.swap_source.new.self c.in-Part.place c.in-Part.path c.in-Part.part c.swap_part.new.part c.in-Part.source c.swap_source.new.source
    c.swap_part.ensures.image c.swap_part.ensures.node c.swap_source.ensures.image c.swap_source.ensures.former).0

pub returns-in-Part-clause-change : goal.returns-in-Part-clause-change
returns-in-Part-clause-change c =
    rw c.in-Part.is (part_applied c.args.image.now c.swap_part.new.image c.swap_source.new.self c.in-Part.place c.in-Part.path c.in-Part.part c.swap_part.new.part c.in-Part.source c.swap_source.new.source
    c.swap_part.ensures.image c.swap_part.ensures.node c.swap_source.ensures.image c.swap_source.ensures.former).1
