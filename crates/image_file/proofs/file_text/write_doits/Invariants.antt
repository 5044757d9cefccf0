use Rattle.std.proofs.Common.{◌≡◌, ◌++◌, ◌-◌, drop, take}
use Rattle.std.specs.Prelude.{flat_map}
use Rattle.image_file.specs.Writable.{doit_text_of}
use Rattle.image_file.proofs.file_text.write_doits.Given as goal

abbrev pub invariant-loop-number : goal.invariant-loop-number
invariant-loop-number l =
    l.out ++ flat_map doit_text_of (take (l.to - l.number) (drop l.number l.image.doits))
    ≡ l.initial.out ++ flat_map doit_text_of (take (l.to - l.from) (drop l.from l.image.doits))

abbrev pub decreases-loop-number : goal.decreases-loop-number
decreases-loop-number l = l.to - l.number
