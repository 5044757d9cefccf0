use Rattle.std.proofs.Common.{◌≡◌, ◌++◌}
use Rattle.class_table.specs.Valid.{IsOrderly}
use Rattle.live_slots.specs.Live.{AllLive}
use Rattle.image_building.proofs.doits.add_doits.Given as goal

abbrev pub invariant-loop-doit : goal.invariant-loop-doit
invariant-loop-doit l = record {
  doits : l.image ≡ record l.initial.image { doits = l.initial.image.doits ++ l.yielded };
  orderly : IsOrderly l.image;
  live : AllLive l.image;
}
