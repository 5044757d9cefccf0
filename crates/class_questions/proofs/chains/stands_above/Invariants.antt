use Rattle.std.proofs.Common.{◌≡◌}
use Rattle.std.specs.Prelude.{nat_eq}
use Rattle.std.specs.List.{list_any}
use Rattle.std.specs.Option.{ForSome}
use Rattle.image_model.specs.Chain.{chain}
use Rattle.class_table.specs.View.{class_name, number_image}
use Rattle.class_table.specs.Valid.{IsLive}
use Rattle.name_meanings.proofs.Walks.{classes_from}
use Rattle.class_questions.specs.Sought.{is_sought}
use Rattle.class_questions.proofs.chains.stands_above.Given as goal

abbrev pub invariant-loop-left : goal.invariant-loop-left
invariant-loop-left l = record {
  live : ForSome l.at (IsLive l.image.class_order);
  same : list_any (is_sought l.fn.sought) (classes_from l.image l.left l.at)
      ≡ list_any (is_sought l.fn.sought) (chain nat_eq (number_image l.image).classes (class_name l.image.classes l.fn.class));
}

abbrev pub decreases-loop-left : goal.decreases-loop-left
decreases-loop-left l = l.left
