use Rattle.std.proofs.Common.{◌≡◌, All, length, take}
use Rattle.class_table.specs.declared.record.Place.{Place}
use Rattle.reference_index.specs.declared.fresh.Fresh.{Fresh}
use Rattle.reference_index.specs.Mentioned.{kept_of}
use Rattle.reference_index.specs.Rows.{Fits}
use Rattle.reference_index.proofs.rows.Rows.reach_each.Given as goal

abbrev pub invariant-loop-place : goal.invariant-loop-place
invariant-loop-place l =
    All (λ (f : Fresh). Fits l.self f.place f.names) (take l.place-index l.fresh)
    × ((p : Place) → kept_of l.self p ≡ kept_of l.initial.self p)
    × (take (length l.initial.self.methods) l.self.methods ≡ l.initial.self.methods)
    × (take (length l.initial.self.doits) l.self.doits ≡ l.initial.self.doits)
