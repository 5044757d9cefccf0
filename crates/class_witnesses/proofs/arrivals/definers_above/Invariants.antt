use Rattle.std.proofs.Common.{◌≡◌, ◌++◌, Some, map}
use Rattle.std.specs.Prelude.{filter, nat_eq}
use Rattle.std.specs.Option.{ForSome}
use Rattle.image_model.specs.Chain.{chain}
use Rattle.rename_model.specs.Conditions.{defines}
use Rattle.class_table.specs.View.{number_image}
use Rattle.class_table.specs.Valid.{IsLive}
use Rattle.name_meanings.proofs.Walks.{classes_from}
use Rattle.refusal_witnesses.specs.Witnesses.{a_class_of}
use Rattle.witness_lists.specs.Views.{shown}
use Rattle.class_witnesses.proofs.arrivals.definers_above.Given as goal

abbrev pub invariant-loop-left : goal.invariant-loop-left
invariant-loop-left l = record {
  live : ForSome l.at (IsLive l.image.class_order);
  same : shown l.image l.found.items ++ map a_class_of (filter (defines nat_eq l.fn.variable) (classes_from l.image l.left l.at))
      ≡ shown l.image l.fn.found.items ++ map a_class_of (filter (defines nat_eq l.fn.variable) (chain nat_eq (number_image l.image).classes (Some l.fn.class)));
}

abbrev pub decreases-loop-left : goal.decreases-loop-left
decreases-loop-left l = l.left
