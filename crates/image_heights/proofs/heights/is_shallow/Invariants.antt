use Rattle.std.proofs.Common.{◌≡◌, take, true}
use Rattle.std.specs.List.{list_all}
use Rattle.image_heights.specs.Low.{is_doit_low, is_low_method}
use Rattle.image_heights.proofs.heights.is_shallow.Given as goal

abbrev pub invariant-loop-slot : goal.invariant-loop-slot
invariant-loop-slot g l = list_all (is_low_method l.image) (take l.slot-index l.slot-items) ≡ true

abbrev pub invariant-loop-number : goal.invariant-loop-number
invariant-loop-number g l = record {
  methods : list_all (is_low_method l.image) l.image.method_order ≡ true;
  doits : list_all is_doit_low (take l.number l.image.doits) ≡ true;
}
