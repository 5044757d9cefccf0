use Rattle.std.proofs.Common.{◌≡◌}
use Rattle.std.specs.Prelude.{nat_eq}
use Rattle.std.specs.Option.{ForSome}
use Rattle.image_model.specs.Chain.{chain}
use Rattle.image_model.specs.Means.{as_variable}
use Rattle.class_table.specs.View.{class_name, number_image}
use Rattle.class_table.specs.Valid.{IsLive}
use Rattle.name_meanings.specs.Meanings.{kind_of}
use Rattle.name_meanings.proofs.Walks.{classes_from}
use Rattle.name_meanings.proofs.behind.as_variable.Given as goal

abbrev pub invariant-loop-left : goal.invariant-loop-left
invariant-loop-left l = record {
  live : ForSome l.at (IsLive l.image.class_order);
  same : as_variable nat_eq (kind_of l.kind) (classes_from l.image l.left l.at) l.name
      ≡ as_variable nat_eq (kind_of l.kind) (chain nat_eq (number_image l.image).classes (class_name l.image.classes l.fn.class)) l.name;
}

abbrev pub decreases-loop-left : goal.decreases-loop-left
decreases-loop-left l = l.left
