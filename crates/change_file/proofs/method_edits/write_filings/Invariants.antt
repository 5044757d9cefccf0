use Rattle.std.proofs.Common.{◌≡◌, ◌++◌, drop, map}
use Rattle.std.specs.Prelude.{flat_map}
use Rattle.change_file.specs.Shown.{placed_method}
use Rattle.change_file.specs.Texts.{put_text}
use Rattle.change_file.proofs.method_edits.write_filings.Given as goal

abbrev pub invariant-loop-placed : goal.invariant-loop-placed
invariant-loop-placed l =
    l.out ++ flat_map put_text (map placed_method (drop l.placed-index l.differing)) ≡ l.initial.out ++ flat_map put_text (map placed_method l.differing)
