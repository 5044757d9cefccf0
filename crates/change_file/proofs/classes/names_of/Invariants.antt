use Rattle.std.proofs.Common.{◌≡◌, ◌++◌, drop}
use Rattle.change_file.specs.Shown.{class_texts, class_keys}
use Rattle.change_file.proofs.classes.names_of.Given as goal

abbrev pub invariant-loop-rec : goal.invariant-loop-rec
invariant-loop-rec l = l.names ++ class_keys (class_texts l.image (drop l.rec-index l.recs)) ≡ class_keys (class_texts l.image l.recs)
