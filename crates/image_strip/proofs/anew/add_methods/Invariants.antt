use Rattle.std.proofs.Common.{◌≡◌, map, filter, take}
use Rattle.class_table.specs.View.{live}
use Rattle.image_strip.specs.Anew.{placed_method, with_methods}
use Rattle.image_strip.specs.Reached.{is_marked}
use Rattle.image_strip.proofs.anew.add_methods.Given as goal

abbrev pub invariant-loop-slot : goal.invariant-loop-slot
invariant-loop-slot g l = l.made ≡ with_methods l.initial.made (map (placed_method l.places) (live l.image.methods (filter (is_marked l.reach.methods) (take l.slot-index l.slot-items))))
