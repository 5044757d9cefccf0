use Rattle.std.proofs.Common.{◌≡◌, ◌++◌, drop}
use Rattle.change_file.specs.Shown.{class_texts, AreWritable}
use Rattle.change_file.proofs.ClassLists.{user_texts}
use Rattle.change_file.proofs.classes.user_recs.Given as goal

abbrev pub invariant-loop-id : goal.invariant-loop-id
invariant-loop-id l =
    (class_texts l.image l.recs.items ++ user_texts l.image (drop l.id-index l.id-items) ≡ user_texts l.image l.id-items) × AreWritable l.image l.recs.items
