use Rattle.std.proofs.Common.{◌≡◌, ◌++◌, map, filter, take}
use Rattle.class_plans.specs.Removed.{is_of_class, method_gone, place_of}
use Rattle.class_plans.proofs.removal.put_methods_gone.Given as goal

abbrev pub invariant-loop-slot : goal.invariant-loop-slot
invariant-loop-slot l = record {
  changes_are : l.changes ≡ l.fn.changes ++ map method_gone (filter (is_of_class l.image l.class) (take l.slot-index l.slot-items));
  touched_are : l.touched.items ≡ l.fn.touched.items ++ map place_of (filter (is_of_class l.image l.class) (take l.slot-index l.slot-items));
}
