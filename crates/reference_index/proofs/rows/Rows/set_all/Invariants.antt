use Rattle.std.proofs.Common.{◌≡◌, All}
use Rattle.class_table.specs.declared.record.Place.{Place}
use Rattle.reference_index.specs.declared.fresh.Fresh.{Fresh}
use Rattle.reference_index.specs.Rows.{Fits}
use Rattle.reference_index.specs.Fresh.{AllRise, kept_after}
use Rattle.reference_index.proofs.rows.Rows.set_all.Given as goal

abbrev pub invariant-loop-place : goal.invariant-loop-place
invariant-loop-place l =
    All (λ (f : Fresh). Fits l.self f.place f.names) l.fresh.items
    × ((p : Place) → kept_after l.self l.fresh.items p ≡ kept_after l.initial.self l.initial.fresh.items p)
    × AllRise l.fresh.items

abbrev pub decreases-loop-place : goal.decreases-loop-place
decreases-loop-place l = l.fresh.len
