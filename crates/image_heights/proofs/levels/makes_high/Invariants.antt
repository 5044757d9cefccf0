use Rattle.std.proofs.Common.{◌≡◌, drop}
use Rattle.std.specs.List.{list_any}
use Rattle.image_heights.specs.High.{is_high_change}
use Rattle.image_heights.proofs.levels.makes_high.Given as goal

abbrev pub invariant-loop-change : goal.invariant-loop-change
invariant-loop-change l = list_any is_high_change (drop l.change-index l.changes) ≡ list_any is_high_change l.changes
