use Rattle.std.proofs.Common.{◌≡◌, map, filter, take}
use Rattle.class_table.specs.View.{live}
use Rattle.image_strip.specs.Anew.{placed_class, with_classes}
use Rattle.image_strip.specs.Stripped.{is_class_marked}
use Rattle.image_strip.proofs.anew.add_classes.Given as goal

abbrev pub invariant-loop-id : goal.invariant-loop-id
invariant-loop-id l = l.made ≡ with_classes l.initial.made (map (placed_class l.places) (live l.image.classes (filter (is_class_marked l.image.classes l.reach.classes) (take l.id-index l.id-items))))
