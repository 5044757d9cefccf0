use Rattle.std.proofs.Common.{◌≡◌, length, take}
use Rattle.class_table.specs.declared.record.Place.{Place}
use Rattle.use_index.specs.Fresh.{HaveRows}
use Rattle.use_index.specs.Rows.{used_of}
use Rattle.use_index.proofs.rows.UseRows.reach_each.Given as goal

abbrev pub invariant-loop-place : goal.invariant-loop-place
invariant-loop-place l =
    HaveRows l.self (take l.place-index l.fresh)
    × ((p : Place) → used_of l.self p ≡ used_of l.initial.self p)
    × (take (length l.initial.self.methods) l.self.methods ≡ l.initial.self.methods)
    × (take (length l.initial.self.doits) l.self.doits ≡ l.initial.self.doits)
