use Rattle.std.proofs.Common.{◌≡◌, ◌++◌, take}
use Rattle.std.specs.Prelude.{flat_map}
use Rattle.image_file.specs.Writable.{class_text_at}
use Rattle.image_file.proofs.class_texts.write_classes.Given as goal

abbrev pub invariant-loop-id : goal.invariant-loop-id
invariant-loop-id l = l.out ≡ l.initial.out ++ flat_map (class_text_at l.image) (take l.id-index l.id-items)
