use Rattle.std.proofs.Common.{◌≡◌, ◌-◌, length, take}
use Rattle.class_table.specs.Valid.{IsOrderly}
use Rattle.canonical_image.specs.Sources.{canonical_rec, all_changed}
use Rattle.canonical_image.proofs.format.format_methods.Given as goal

abbrev pub invariant-loop-place : goal.invariant-loop-place
invariant-loop-place g l = record {
  is : l.image ≡ record l.initial.image { methods = all_changed (canonical_rec l.initial.image.names) l.initial.image.methods (take l.place l.initial.image.method_order) };
  orderly : IsOrderly l.image;
}

abbrev pub decreases-loop-place : goal.decreases-loop-place
decreases-loop-place g l = length l.image.method_order - l.place
