use Rattle.std.proofs.Common.{◌≡◌, ◌≤◌, length, filter, take}
use Rattle.image_strip.specs.Anew.{ArePlaces}
use Rattle.image_strip.specs.Stripped.{is_class_marked}
use Rattle.image_strip.proofs.anew.class_places.Given as goal

abbrev pub invariant-loop-id : goal.invariant-loop-id
invariant-loop-id l = record {
  within : l.count ≤ l.id-index;
  count : l.count ≡ length (filter (is_class_marked l.image.classes l.reach.classes) (take l.id-index l.id-items));
  places : ArePlaces (filter (is_class_marked l.image.classes l.reach.classes) (take l.id-index l.id-items)) l.places.items;
}
