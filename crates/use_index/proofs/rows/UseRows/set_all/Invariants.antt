use Rattle.std.proofs.Common.{◌≡◌}
use Rattle.class_table.specs.declared.record.Place.{Place}
use Rattle.use_index.specs.Fresh.{HaveRows, used_after}
use Rattle.use_index.proofs.rows.UseRows.set_all.Given as goal

abbrev pub invariant-loop-place : goal.invariant-loop-place
invariant-loop-place l =
    HaveRows l.self l.fresh.items
    × ((p : Place) → used_after l.self l.fresh.items p ≡ used_after l.initial.self l.initial.fresh.items p)

abbrev pub decreases-loop-place : goal.decreases-loop-place
decreases-loop-place l = l.fresh.len
